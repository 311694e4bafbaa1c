-- Nesting (EDN).
--
-- A form is a part of the list of tokens: a token that stands alone, a collection from its opener
-- to its closer, whose members are the forms between the two, or a tag with the form after it. A
-- `#_` leaves out the form after it. So tokens are forms in this way, from left to right:
--     no tokens                            no forms
--     a token that stands alone, rest      the token, then the forms of the rest
--     an opener, tokens, a closer, rest    the collection with the forms of these tokens as its
--                                          members, then the forms of the rest
--     a tag, rest                          the forms of the rest, the first of them with the tag
--     `#_`, rest                           the forms of the rest without the first of them
-- Whether a closer fits its opener is decided where a text is cut into tokens.
--
-- A text without a fault has the entries that its forms give: at the top level each form is a map,
-- which gives an entry, or a vector or list of such maps, and tags are passed over.
use Rattle.std.specs.Prelude.{◌≡◌, ℕ, List, [], ◌∷◌, ◌++◌, Bool, true, false, if◌then◌else◌, IsTrue, Option, Some, None, Result, Ok, map, flat_map}
use Rattle.std.specs.Result.{result_ok}
use Rattle.hist_types.specs.Entries.{PlacedOperation, Entry, operation, entry_of, ◌>>=◌}
use Rattle.hist_types.specs.Forms.{Form, plain, collection, tagged, forms_of, list_of, is_map, is_vector_or_list, OpenCollection, Open, with_form}
use Rattle.hist_types.specs.Reading.{step, nothing_open}
use Rattle.hist_types.specs.Tokens.{Item, ItemKind, Opener, Closer, Drop, Tag, HasTokens}
use Rattle.hist_types.specs.declared.types.Fault.{Fault}

-- a token of this kind is a form by itself
abbrev pub is_form_by_itself : ItemKind → Bool
is_form_by_itself Opener = false
is_form_by_itself Closer = false
is_form_by_itself Tag = false
is_form_by_itself Drop = false
is_form_by_itself kind = true

-- The tokens are these forms, one after the other.
pub data AreForms : List Item → List Form → Type 0 where
  nothing : AreForms [] []
  alone :
      (token : Item) (rest : List Item) (forms : List Form)
      → IsTrue (is_form_by_itself token.kind)
      → AreForms rest forms
      → AreForms (token ∷ rest) (plain token ∷ forms)
  nested :
      (opener closer : Item) (between rest : List Item) (members forms : List Form)
      → opener.kind ≡ Opener
      → closer.kind ≡ Closer
      → AreForms between members
      → AreForms rest forms
      → AreForms (opener ∷ between ++ closer ∷ rest)
      (collection opener closer (forms_of members) ∷ forms)
  with_tag :
      (tag : Item) (rest : List Item) (first : Form) (forms : List Form)
      → tag.kind ≡ Tag
      → AreForms rest (first ∷ forms)
      → AreForms (tag ∷ rest) (tagged tag first ∷ forms)
  without :
      (drop : Item) (rest : List Item) (first : Form) (forms : List Form)
      → drop.kind ≡ Drop
      → AreForms rest (first ∷ forms)
      → AreForms (drop ∷ rest) forms

-- The tokens are these forms and no others.
abbrev pub AreNoOtherForms : List Item → List Form → Type 0
AreNoOtherForms tokens forms = (others : List Form) → AreForms tokens others → others ≡ forms

-- ---- forms and what is open

-- what is open after the tokens, or the first fault
abbrev pub open_after_all : Open → List Item → Result Open Fault
open_after_all o [] = Ok o
open_after_all o (t ∷ ts) = step o t >>= λ s. open_after_all s.after ts

-- what is open after the forms, one after the other
abbrev pub with_forms : List Form → Open → Open
with_forms [] o = o
with_forms (f ∷ fs) o = with_forms fs (with_form f o.marks o.collections)

-- Wherever the tokens are read without a fault, they leave open what the forms leave.
abbrev pub ActAs : List Item → List Form → Type 0
ActAs tokens forms =
    (o after : Open) → open_after_all o tokens ≡ Ok after → after ≡ with_forms forms o

-- With an opener before them and a closer after them, the tokens act as one collection with these
-- members.
abbrev pub FillAnyCollection : List Item → List Form → Type 0
FillAnyCollection tokens members =
    (opener closer : Item)
    → opener.kind ≡ Opener
    → closer.kind ≡ Closer
    → ActAs (opener ∷ tokens ++ closer ∷ []) (collection opener closer (forms_of members) ∷ [])

-- only this collection is open, with these members, and no mark waits
abbrev pub alone_with : Item → List Form → Open
alone_with opener members =
    record {
      marks = [];
      collections = record { opener = opener; members = members; marks = [] } ∷ [];
    }

-- Alone in a map or a set, the tokens are read without a fault, and the forms are its members.
abbrev pub FillAlone : List Item → List Form → Type 0
FillAlone tokens forms =
    (opener : Item)
    → is_vector_or_list opener ≡ false
    → open_after_all (alone_with opener []) tokens ≡ Ok (alone_with opener forms)

-- The collection's opener is one of the tokens. The tokens after it are the collection's members,
-- and those before it leave open what is open around the collection.
pub record IsOpenedIn (tokens : List Item) (c : OpenCollection) (marks : List Item)
    (outer : List OpenCollection) : Type 0 where
  pub before : List Item
  pub between : List Item
  pub split : tokens ≡ before ++ c.opener ∷ between
  pub opens : c.opener.kind ≡ Opener
  pub members : AreForms between c.members
  pub around :
      open_after_all nothing_open before ≡ Ok (record { marks = marks; collections = outer })

-- After these tokens, if no mark waits in the innermost open collection, it holds what the tokens
-- after its opener are.
abbrev pub HoldWhatIsBetween : List Item → Type 0
HoldWhatIsBetween tokens =
    (c : OpenCollection) (marks : List Item) (outer : List OpenCollection)
    → open_after_all nothing_open tokens ≡ Ok (record { marks = marks; collections = c ∷ outer })
    → c.marks ≡ []
    → IsOpenedIn tokens c marks outer

-- ---- what the forms of a text give

-- the entry that a form gives in an operation's place, if it gives one; tags are passed over
abbrev pub entry_by_form : Form → Option Entry
entry_by_form (plain token) = None
entry_by_form (collection opener closer members) =
    if is_map opener then result_ok (entry_of opener closer (list_of members)) else None
entry_by_form (tagged tag f) = entry_by_form f

-- the entries that a form gives at the top level, where a vector or list has operations in it
abbrev pub entries_by_form : Form → List (Option Entry)
entries_by_form (plain token) = None ∷ []
entries_by_form (collection opener closer members) =
    if is_vector_or_list opener then map entry_by_form (list_of members)
    else entry_by_form (collection opener closer members) ∷ []
entries_by_form (tagged tag f) = entries_by_form f

-- The text's tokens are forms, each of which gives entries, and together they give these.
abbrev pub IsOfForms : List ℕ → List Entry → Type 0
IsOfForms text entries =
    (tokens : List Item)
    × (forms : List Form)
    × HasTokens text tokens None
    × AreForms tokens forms
    × (flat_map entries_by_form forms ≡ map Some entries)

-- The operation is a map among the tokens, given by the forms between its opener and its closer.
pub record IsMapAmong (tokens : List Item) (o : PlacedOperation) : Type 0 where
  pub before : List Item
  pub opener : Item
  pub between : List Item
  pub closer : Item
  pub rest : List Item
  pub members : List Form
  pub split : tokens ≡ before ++ opener ∷ between ++ closer ∷ rest
  pub opens : opener.kind ≡ Opener
  pub closes : closer.kind ≡ Closer
  pub is_a_map : is_map opener ≡ true
  pub holds : AreForms between members
  pub gives : entry_of opener closer members ≡ Ok (operation o)

-- The operation is a map among the text's tokens.
abbrev pub IsMapOfForms : List ℕ → PlacedOperation → Type 0
IsMapOfForms text o =
    (tokens : List Item)
    × (ending : Option Fault)
    × HasTokens text tokens ending
    × IsMapAmong tokens o
