-- How reading goes from one place of a text to another.
--
-- A lexer's state fixes the tokens that are left, and with what is open there it fixes how they
-- read. `Leads` says that what is read from one place is some entries, and then what is read from
-- another place. It composes.
use Rattle.std.specs.Prelude.{◌≡◌, ℕ, ◌+◌, ◌≤◌, List, [], ◌∷◌, length, Bool, true, false, Option, Some, None, Result, Ok, Err, unwrap_or}
use Rattle.hist_types.specs.Entries.{Entry}
use Rattle.hist_types.specs.Forms.{Form, collection, tagged, forms_of, OpenCollection, Open, has_drop, with_form, with_opener}
use Rattle.hist_types.specs.Reading.{Reading, in_operation_place, after_entries, fault_at_end, reading_from}
use Rattle.hist_types.specs.Tokens.{Item, ItemKind, Opener, Closer, Drop, Tag}
use Rattle.hist_types.specs.declared.types.Fault.{Fault}
use Rattle.edn_lex.specs.Kinds.{kind_of}
use Rattle.edn_lex.specs.State.{State, Rest, GivesToken}
use Rattle.edn_ops.specs.declared.forms.Member.{Member}
use Rattle.edn_ops.specs.LevelEnds.{SameLevel, LevelEnds}

-- ---- from one place to another

-- as many collections are open for the lexer as for reading
abbrev pub SameDepth : State → Open → Type 0
SameDepth s o = length s.closers ≡ length o.collections

-- From s, where o is open, the entries are read first, and then what is read from t, where p is
-- open.
pub record Leads (s : State) (o : Open) (given : List Entry) (t : State) (p : Open) : Type 0 where
  pub text : t.text ≡ s.text
  pub forward : s.offset ≤ t.offset
  pub depth : length t.closers + length o.collections ≡ length s.closers + length p.collections
  pub reads :
      (tokens : List Item) (ending : Option Fault) → Rest s tokens ending →
      (later : List Item) × Rest t later ending
      × (reading_from o tokens ending ≡ after_entries given (reading_from p later ending))

-- what is left from s, where o is open, reads so
abbrev pub ReadsAs : State → Open → Reading → Type 0
ReadsAs s o reading =
    (tokens : List Item) (ending : Option Fault) → Rest s tokens ending →
    reading_from o tokens ending ≡ reading

-- From s, where o is open, nothing is read but the fault.
abbrev pub Stops : State → Open → Fault → Type 0
Stops s o fault = SameDepth s o → ReadsAs s o (record { entries = []; fault = Some fault })

-- ---- what is open

-- a collection is open within what is open around it
abbrev pub inside :
    (opener : Item) (members : List Form) (marks : List Item) (around : Open) → Open
inside opener members marks around =
    record {
      marks = around.marks;
      collections =
          record { opener = opener; members = members; marks = marks } ∷ around.collections;
    }

-- no operation's place is directly in a collection with this opener, where this is open around it
abbrev pub NoPlaceIn : Item → Open → Type 0
NoPlaceIn opener around =
    (members : List Form) (marks : List Item) →
    in_operation_place (inside opener members marks around) ≡ false

-- the same with these marks in the innermost open collection, or at the top level
abbrev pub marks_among : List Item → List Item → List OpenCollection → Open
marks_among new marks [] = record { marks = new; collections = [] }
marks_among new marks (inner ∷ outer) =
    record {
      marks = marks;
      collections = record { opener = inner.opener; members = inner.members; marks = new } ∷ outer;
    }

abbrev pub with_marks : List Item → Open → Open
with_marks new o = marks_among new o.marks o.collections

-- ---- members

-- where the first of these marks is, the last of which comes first
abbrev pub first_place : List Item → Option ℕ
first_place [] = None
first_place (mark ∷ marks) = Some (unwrap_or (first_place marks) mark.start)

-- the form with these tags in front of it, the last first
abbrev pub behind : List Item → Form → Form
behind [] f = f
behind (tag ∷ tags) f = behind tags (tagged tag f)

-- the form itself where there is no tag, or else a tagged form that begins at the first tag
abbrev pub IsBehind : Option ℕ → Form → Form → Type 0
IsBehind None f g = g ≡ f
IsBehind (Some place) f g =
    (tag : Item) × (inner : Form) × (g ≡ tagged tag inner) × (tag.start ≡ place)

abbrev pub is_mark_kind : ItemKind → Bool
is_mark_kind Drop = true
is_mark_kind Tag = true
is_mark_kind kind = false

-- a token that is a form
abbrev pub is_plain_kind : ItemKind → Bool
is_plain_kind Opener = false
is_plain_kind Closer = false
is_plain_kind Drop = false
is_plain_kind Tag = false
is_plain_kind kind = true

-- From s, where no mark waits in the innermost open collection, a call passed over tags and over
-- what is left out, and then gave the token of a member or the closer, after which is t.
pub record GivesMember (s : State) (member : Member) (t : State) : Type 0 where
  pub tags : List Item
  pub no_drop : has_drop tags ≡ false
  pub first : member.tag ≡ first_place tags
  pub before : State
  pub leads : (o : Open) → Leads s (with_marks [] o) [] before (with_marks tags o)
  pub level : SameLevel s [] before tags
  pub token : GivesToken before member.token t
  pub no_mark : is_mark_kind (kind_of member.token.kind) ≡ false
  pub closer : kind_of member.token.kind ≡ Closer → tags ≡ []

-- nothing is left but what is left out
pub record GivesNoMember (s : State) (t : State) : Type 0 where
  pub text : t.text ≡ s.text
  pub forward : s.offset ≤ t.offset
  pub reads :
      (o : Open) →
      ReadsAs s (with_marks [] o) (record { entries = []; fault = fault_at_end (with_marks [] o) })
  pub after : Rest t [] None

-- what a call that looks for the next member gives
abbrev pub NextMember : State → Result (Option Member) Fault → State → Type 0
NextMember s (Ok None) t = GivesNoMember s t
NextMember s (Ok (Some member)) t = GivesMember s member t
NextMember s (Err fault) t = (o : Open) → Stops s (with_marks [] o) fault

-- after the opener, a call passed over the collection up to after its closer
pub record PassesCollection (s : State) (opener : Item) (t : State) : Type 0 where
  pub members : List Form
  pub closer : Item
  pub level : LevelEnds s t
  pub leads :
      (o : Open) → in_operation_place o ≡ false →
      Leads s (with_opener opener o) []
      t (with_form (collection opener closer (forms_of members)) o.marks o.collections)

-- what a call that passes over a collection gives, where no operation's place is
abbrev pub SkipsCollection : State → Item → Result (Unit {0}) Fault → State → Type 0
SkipsCollection s opener (Ok done) t = PassesCollection s opener t
SkipsCollection s opener (Err fault) t =
    (o : Open) → in_operation_place o ≡ false → Stops s (with_opener opener o) fault
