-- Forms (EDN).
--
-- A form is a token by itself, a collection with its members, or a tag with the form after it.
-- Forms are made from left to right. Each open collection has its members so far, and its
-- marks: the tags and `#_` that wait in it for a form. A form settles against the marks that wait
-- where it is, the last first: a tag joins it, and a `#_` leaves it out and is done, so that
-- `#_ #_ a b` leaves out both a and b. What no `#_` left out is a member.
use Rattle.std.specs.Prelude.{ℕ, List, [], ◌∷◌, ◌++◌, Bool, true, false, ◌||◌, if◌then◌else◌, bytes_eq, Option, Some, None}
use Rattle.std.specs.List.{list_any}
use Rattle.hist_types.specs.Bytes.{open_round, open_square, open_brace}
use Rattle.hist_types.specs.Tokens.{Item, ItemKind, Drop}

mutual
  pub data Form : Type 0 where
    plain : (token : Item) → Form
    collection : (opener closer : Item) → (members : Forms) → Form
    tagged : (tag : Item) → Form → Form

  -- a list of forms
  pub data Forms : Type 0 where
    no_form : Forms
    form : Form → Forms → Forms

abbrev pub forms_of : List Form → Forms
forms_of [] = no_form
forms_of (f ∷ fs) = form f (forms_of fs)

abbrev pub list_of : Forms → List Form
list_of no_form = []
list_of (form f fs) = f ∷ list_of fs

-- a collection that is open, with its members so far and the marks that wait in it, the last first
pub record OpenCollection : Type 0 where
  pub opener : Item
  pub members : List Form
  pub marks : List Item

-- What is open at a place of a text: the marks that wait at the top level, the last first, and the
-- open collections, the innermost first.
pub record Open : Type 0 where
  pub marks : List Item
  pub collections : List OpenCollection

-- where a form begins; a tagged one begins at its tag
abbrev pub place_of : Form → ℕ
place_of (plain t) = t.start
place_of (collection opener closer members) = opener.start
place_of (tagged tag f) = tag.start

abbrev pub is_map : Item → Bool
is_map opener = bytes_eq opener.bytes (open_brace ∷ [])

abbrev pub is_vector_or_list : Item → Bool
is_vector_or_list opener =
    bytes_eq opener.bytes (open_square ∷ []) || bytes_eq opener.bytes (open_round ∷ [])

-- ---- marks

abbrev pub is_drop_kind : ItemKind → Bool
is_drop_kind Drop = true
is_drop_kind kind = false

abbrev pub is_drop : Item → Bool
is_drop mark = is_drop_kind mark.kind

-- a form before one of these marks is left out
abbrev pub has_drop : List Item → Bool
has_drop marks = list_any is_drop marks

-- what becomes of a form after these marks: the member that it makes, if it makes one
abbrev pub settled : List Item → Form → Option Form
settled [] f = Some f
settled (mark ∷ marks) f = if is_drop mark then None else settled marks (tagged mark f)

-- the marks that wait when a form has settled against these
abbrev pub still_waiting : List Item → List Item
still_waiting [] = []
still_waiting (mark ∷ marks) = if is_drop mark then marks else still_waiting marks

abbrev pub with_member : Option Form → List Form → List Form
with_member None members = members
with_member (Some f) members = members ++ f ∷ []

-- ---- what a token opens, ends or adds

abbrev pub with_form_in : Form → OpenCollection → OpenCollection
with_form_in f c =
    record {
      opener = c.opener;
      members = with_member (settled c.marks f) c.members;
      marks = still_waiting c.marks;
    }

-- a form in the innermost open collection, or at the top level
abbrev pub with_form : Form → List Item → List OpenCollection → Open
with_form f marks [] = record { marks = still_waiting marks; collections = [] }
with_form f marks (inner ∷ outer) =
    record { marks = marks; collections = with_form_in f inner ∷ outer }

-- a mark waits there
abbrev pub with_mark : Item → List Item → List OpenCollection → Open
with_mark mark marks [] = record { marks = mark ∷ marks; collections = [] }
with_mark mark marks (inner ∷ outer) =
    record {
      marks = marks;
      collections =
          record { opener = inner.opener; members = inner.members; marks = mark ∷ inner.marks }
          ∷ outer;
    }

abbrev pub with_opener : Item → Open → Open
with_opener opener o =
    record {
      marks = o.marks;
      collections = record { opener = opener; members = []; marks = [] } ∷ o.collections;
    }

abbrev pub form_of : OpenCollection → Item → Form
form_of c closer = collection c.opener closer (forms_of c.members)

-- the marks that wait directly in the innermost open collection, or at the top level
abbrev pub waiting : List Item → List OpenCollection → List Item
waiting marks [] = marks
waiting marks (inner ∷ outer) = inner.marks
