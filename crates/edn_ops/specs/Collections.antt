-- What calls read of the members of a collection, and of a collection as a whole.
use Rattle.std.specs.Prelude.{◌≡◌, ◌≢◌, ◌≤◌, ◌<◌, ℕ, List, [], ◌∷◌, ◌++◌, take, map, true, false, Option, Some, Result, Ok, Err, Vec}
use Rattle.std.specs.Global.{Global}
use Rattle.std.specs.List.{AllByRecursion}
use Rattle.hist_types.specs.Entries.{Entry, micro_op_of, micro_ops_of, elements_of}
use Rattle.hist_types.specs.Forms.{Form, collection, forms_of, Open, place_of, with_form, with_opener}
use Rattle.hist_types.specs.Reading.{in_operation_place}
use Rattle.hist_types.specs.Refusals.{memory_fault}
use Rattle.hist_types.specs.Tokens.{Item}
use Rattle.hist_types.specs.declared.types.Fault.{Fault}
use Rattle.arrayvec.specs.ArrayVec.{ArrayVec}
use Rattle.edn_lex.specs.State.{State}
use Rattle.edn_ops.specs.declared.types.MopShape.{MopShape}
use Rattle.edn_ops.specs.declared.types.OpShape.{OpShape}
use Rattle.edn_ops.specs.declared.outline.Outline.{Outline}
use Rattle.edn_ops.specs.Fields.{mop_result, mops_result, shapes_result, Gathers, AreFieldsIn, IsEntry}
use Rattle.edn_ops.specs.declared.fields.Fields.{Fields}
use Rattle.edn_ops.specs.Leads.{Leads, Stops, inside, NoPlaceIn}
use Rattle.edn_ops.specs.Outlines.{outline, outline_of, IsOutlineIn}

-- what holds of a fault that is not out of memory
abbrev pub UnlessMemory : Fault → Type 0 → Type 0
UnlessMemory fault P = fault ≢ memory_fault → P

-- ---- a member

-- From s, in a collection with no operation's place in it, the form is its next member, after
-- which is t.
pub record ReadsMember (s : State) (form : Form) (t : State) : Type 0 where
  pub text : t.text ≡ s.text
  pub forward : s.offset < t.offset
  pub leads :
      (opener : Item) (members : List Form) (around : Open) → NoPlaceIn opener around →
      Leads s (inside opener members [] around) []
      t (inside opener (members ++ form ∷ []) [] around)

-- from s, in such a collection, reading stops
abbrev pub StopsInside : State → Fault → Type 0
StopsInside s fault =
    (opener : Item) (members : List Form) (around : Open) → NoPlaceIn opener around →
    Stops s (inside opener members [] around) fault

-- the form has this outline, which is in the text
pub record HasOutline (text : List ℕ) (form : Form) (o : Outline) : Type 0 where
  pub outline_is : outline form ≡ outline_of text o
  pub within : IsOutlineIn text o

-- a call passed over the member, and gave its outline
abbrev pub PassesMember : State → Result Outline Fault → State → Type 0
PassesMember s (Ok o) t = (form : Form) × ReadsMember s form t × HasOutline s.text form o
PassesMember s (Err fault) t = StopsInside s fault

-- ---- a collection

-- From s, after the opener, the members have been read, after which is t.
pub record ReadsMembers (s : State) (opener : Item) (members : List Form) (t : State) : Type 0 where
  pub text : t.text ≡ s.text
  pub forward : s.offset ≤ t.offset
  pub leads :
      (o : Open) → NoPlaceIn opener o →
      Leads s (with_opener opener o) [] t (inside opener members [] o)

-- From s, after the opener, the collection has been read, up to after its closer. It is in no
-- operation's place.
pub record ReadsCollection
    (s : State) (opener : Item) (members : List Form) (closer : Item) (t : State) : Type 0 where
  pub text : t.text ≡ s.text
  pub forward : s.offset ≤ t.offset
  pub leads :
      (o : Open) → in_operation_place o ≡ false →
      Leads s (with_opener opener o) []
      t (with_form (collection opener closer (forms_of members)) o.marks o.collections)

-- reading stops in the collection
abbrev pub StopsBehind : State → Item → Fault → Type 0
StopsBehind s opener fault =
    (o : Open) → in_operation_place o ≡ false → Stops s (with_opener opener o) fault

-- these are the outlines of the first four of the forms
pub record AreFirstForms
    (text : List ℕ) (outlines : List Outline) (members : List Form) : Type 0 where
  pub outlines_are : map outline (take 4 members) ≡ map (outline_of text) outlines
  pub within : AllByRecursion (IsOutlineIn text) outlines

-- a call read the collection, and gave the outlines of its first four forms
abbrev pub ReadsFirstForms : State → Item → Result (ArrayVec Outline) Fault → State → Type 0
ReadsFirstForms s opener (Ok forms) t =
    (members : List Form) × (closer : Item) × ReadsCollection s opener members closer t
    × AreFirstForms s.text forms.items members
ReadsFirstForms s opener (Err fault) t = StopsBehind s opener fault

-- ---- transactions

-- the shape of the micro-operation that begins at the offset, by the outlines of its forms
abbrev pub outlined_mop : List ℕ → ℕ → List Outline → Result MopShape Fault
outlined_mop text start outlines =
    mop_result (micro_op_of start (Some (map (outline_of text) outlines)))

-- a call read the member, and gave where it begins and the micro-operation that it is
abbrev pub ReadsMop : State → Result (ℕ × Result MopShape Fault) Fault → State → Type 0
ReadsMop s (Ok found) t =
    (form : Form) × ReadsMember s form t × (found.0 ≡ place_of form)
    × (found.1 ≡ mop_result (micro_op_of (place_of form) (elements_of form)))
ReadsMop s (Err fault) t = StopsInside s fault

-- the transaction with one more member, which begins at the offset
abbrev pub AddsMop :
    Result (List MopShape) Fault → ℕ → Result MopShape Fault → Result (List MopShape) Fault → Type 0
AddsMop old start mop new =
    (members : List Form) (form : Form) →
    old ≡ mops_result (micro_ops_of 0 members) → start ≡ place_of form →
    mop ≡ mop_result (micro_op_of (place_of form) (elements_of form)) →
    new ≡ mops_result (micro_ops_of 0 (members ++ form ∷ []))

-- a call read the members of a transaction
abbrev pub ReadsTransaction :
    State → Item → Result (Result (Vec MopShape Global) Fault) Fault → State → Type 0
ReadsTransaction s opener (Ok found) t =
    (members : List Form) × (closer : Item) × ReadsCollection s opener members closer t
    × (shapes_result found ≡ mops_result (micro_ops_of 0 members))
ReadsTransaction s opener (Err fault) t = UnlessMemory fault (StopsBehind s opener fault)

-- ---- maps

-- a call read the map of an operation, after whose opener s is
abbrev pub ReadsMap : State → Item → Result (Option OpShape) Fault → State → Type 0
ReadsMap s opener (Ok found) t =
    (entry : Entry) × (members : List Form) × (closer : Item) × IsEntry (Ok found) (Ok entry)
    × (t.text ≡ s.text) × (s.offset ≤ t.offset)
    × ((o : Open) → in_operation_place o ≡ true →
    Leads s (with_opener opener o) (entry ∷ [])
    t (with_form (collection opener closer (forms_of members)) o.marks o.collections))
ReadsMap s opener (Err fault) t =
    UnlessMemory fault
    ((o : Open) → in_operation_place o ≡ true → Stops s (with_opener opener o) fault)

-- a call gathered the member after s
abbrev pub GathersMember : State → Fields → Result (Unit {0}) Fault → Fields → State → Type 0
GathersMember s old (Ok done) new t =
    (form : Form) × ReadsMember s form t × AreFieldsIn s.text new
    × ((members : List Form) → Gathers s.text old members →
    Gathers s.text new (members ++ form ∷ []))
GathersMember s old (Err fault) new t = UnlessMemory fault (StopsInside s fault)
