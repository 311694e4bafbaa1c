-- Fields of an operation's map, as they are gathered.
use Rattle.std.specs.Prelude.{◌≡◌, ℕ, List, [], ◌∷◌, ◌++◌, ◌&&◌, Bool, true, false, codes, Option, Some, None, option_map, Result, Ok, Err, IfSome, filter, map, Vec}
use Rattle.std.specs.Global.{Global}
use Rattle.std.specs.List.{slice_get}
use Rattle.std.specs.Option.{is_none}
use Rattle.hist_types.specs.Entries.{PlacedMop, Entry, operation, skipped, is_named, the_one, transaction_of, mops_of, client_operation, entry_of, end_of}
use Rattle.hist_types.specs.Tokens.{Item}
use Rattle.hist_types.specs.declared.types.OpKind.{OpKind}
use Rattle.edn_lex.specs.declared.types.Token.{Token}
use Rattle.hist_types.specs.Forms.{Form, place_of}
use Rattle.hist_types.specs.declared.types.Fault.{Fault}
use Rattle.edn_ops.specs.Shapes.{mop_shape_of, IsShapeOf}
use Rattle.edn_ops.specs.Outlines.{outline, outline_of, number_of, IsOutlineIn}
use Rattle.edn_ops.specs.declared.types.MopShape.{MopShape}
use Rattle.edn_ops.specs.declared.outline.Outline.{Outline}
use Rattle.edn_ops.specs.declared.types.OpShape.{OpShape}
use Rattle.edn_ops.specs.declared.types.Span.{Span}
use Rattle.edn_ops.specs.declared.fields.Field.{Field}
use Rattle.edn_ops.specs.declared.fields.Fields.{Fields}

-- ---- results

-- the shape of a micro-operation, or its fault
abbrev pub mop_result : Result PlacedMop Fault → Result MopShape Fault
mop_result (Ok m) = Ok (mop_shape_of m)
mop_result (Err fault) = Err fault

abbrev pub result_outline : Result Form Fault → Result Form Fault
result_outline (Ok f) = Ok (outline f)
result_outline (Err fault) = Err fault

abbrev pub result_outline_of : List ℕ → Result Outline Fault → Result Form Fault
result_outline_of text (Ok o) = Ok (outline_of text o)
result_outline_of text (Err fault) = Err fault

-- ---- the fields of one name

-- these are the fields of the name, as keys and values
pub record IsField (text : List ℕ) (field : Field) (found : List (Form × Form)) : Type 0 where
  pub value :
      option_map (outline_of text) field.value
      ≡ option_map (λ pair. outline pair.1) (slice_get found 0)
  pub second : field.second ≡ option_map (λ pair. place_of pair.0) (slice_get found 1)

abbrev pub IsFieldIn : List ℕ → Field → Type 0
IsFieldIn text field = IfSome field.value (IsOutlineIn text)

-- one more field of the name, by the place of its key and the outline of its value
abbrev pub AddsField : Field → ℕ → Outline → Field → Type 0
AddsField old place value new =
    (text : List ℕ) (found : List (Form × Form)) (key form : Form) →
    IsField text old found → place_of key ≡ place → outline form ≡ outline_of text value →
    IsField text new (found ++ (key, form) ∷ [])

-- where the text has the field and the value, it has the new field too
abbrev pub KeepsFieldIn : Field → Outline → Field → Type 0
KeepsFieldIn old value new =
    (text : List ℕ) → IsFieldIn text old → IsOutlineIn text value → IsFieldIn text new

-- the value of the one field of the name in a map that begins at the offset
abbrev pub IsTheOne : Field → ℕ → Result Outline Fault → Type 0
IsTheOne field start result =
    (text : List ℕ) (found : List (Form × Form)) → IsField text field found →
    result_outline_of text result ≡ result_outline (the_one start found)

-- ---- all fields

-- the members of a map: keys with their values, and a key that has no value yet
abbrev pub members_of : List (Form × Form) → Option Form → List Form
members_of [] None = []
members_of [] (Some key) = key ∷ []
members_of (pair ∷ pairs) pending = pair.0 ∷ pair.1 ∷ members_of pairs pending

-- the fields with this name
abbrev pub fields_named : List ℕ → List (Form × Form) → List (Form × Form)
fields_named name pairs = filter (λ pair. is_named name pair.0) pairs

-- the shapes of a transaction's micro-operations, or its fault
abbrev pub mops_result : Result (List PlacedMop) Fault → Result (List MopShape) Fault
mops_result (Ok mops) = Ok (map mop_shape_of mops)
mops_result (Err fault) = Err fault

-- the same of what the code has
abbrev pub shapes_result : Result (Vec MopShape Global) Fault → Result (List MopShape) Fault
shapes_result (Ok shapes) = Ok shapes.items
shapes_result (Err fault) = Err fault

-- these members have been gathered
pub record Gathers (text : List ℕ) (fields : Fields) (members : List Form) : Type 0 where
  pub pairs : List (Form × Form)
  pub pending : Option Form
  pub all : members ≡ members_of pairs pending
  pub key : option_map (outline_of text) fields.key ≡ option_map outline pending
  pub kind : IsField text fields.kind (fields_named (codes ":type") pairs)
  pub process : IsField text fields.process (fields_named (codes ":process") pairs)
  pub value : IsField text fields.value (fields_named (codes ":value") pairs)
  pub transaction :
      IfSome (slice_get (fields_named (codes ":value") pairs) 0)
      (λ pair. shapes_result fields.transaction ≡ mops_result (transaction_of pair.1))

-- what has been gathered is in the text
pub record AreFieldsIn (text : List ℕ) (fields : Fields) : Type 0 where
  pub key : IfSome fields.key (IsOutlineIn text)
  pub kind : IsFieldIn text fields.kind
  pub process : IsFieldIn text fields.process
  pub value : IsFieldIn text fields.value

-- whether the next member is the value of the first `:value`
abbrev pub awaits_by : List ℕ → Option Outline → Field → Bool
awaits_by text None field = false
awaits_by text (Some key) field =
    is_named (codes ":value") (outline_of text key) && is_none field.value

abbrev pub awaits : List ℕ → Fields → Bool
awaits text fields = awaits_by text fields.key fields.value

-- what the code gives for an operation is what the map gives
abbrev pub IsOperation : Result OpShape Fault → Result Entry Fault → Type 0
IsOperation (Ok shape) (Ok (operation o)) = IsShapeOf shape o
IsOperation (Ok shape) (Ok skipped) = ⊥
IsOperation (Ok shape) (Err fault) = ⊥
IsOperation (Err fault) (Ok entry) = ⊥
IsOperation (Err fault) (Err other) = fault ≡ other

-- what the code gives for a map is the entry that the map gives
abbrev pub IsEntry : Result (Option OpShape) Fault → Result Entry Fault → Type 0
IsEntry (Ok (Some shape)) (Ok (operation o)) = IsShapeOf shape o
IsEntry (Ok (Some shape)) (Ok skipped) = ⊥
IsEntry (Ok None) (Ok (operation o)) = ⊥
IsEntry (Ok None) (Ok skipped) = Unit {0}
IsEntry (Ok found) (Err fault) = ⊥
IsEntry (Err fault) (Ok entry) = ⊥
IsEntry (Err fault) (Err other) = fault ≡ other

-- the value of the first `:value` has been gathered, which is this as a transaction
abbrev pub AddsTransaction : Fields → Outline → Result (List MopShape) Fault → Fields → Type 0
AddsTransaction old value shapes new =
    (text : List ℕ) (members : List Form) (form : Form) →
    Gathers text old members → awaits text old ≡ true → outline form ≡ outline_of text value →
    shapes ≡ mops_result (transaction_of form) → Gathers text new (members ++ form ∷ [])

-- where the text has the fields and the value, it has the new fields too
abbrev pub KeepsFieldsIn : Fields → Outline → Fields → Type 0
KeepsFieldsIn old value new =
    (text : List ℕ) → AreFieldsIn text old → IsOutlineIn text value → AreFieldsIn text new

-- any other member has been gathered
abbrev pub AddsMember : List ℕ → Fields → Outline → Fields → Type 0
AddsMember text old member new =
    (members : List Form) (form : Form) →
    Gathers text old members → awaits text old ≡ false → outline form ≡ outline_of text member →
    Gathers text new (members ++ form ∷ [])

-- what the map gives whose members have been gathered
abbrev pub GivesEntry : List ℕ → Fields → Span → Result (Option OpShape) Fault → Type 0
GivesEntry text fields span result =
    (opener closer : Item) (members : List Form) →
    Gathers text fields members → opener.start ≡ span.start → end_of closer ≡ span.end →
    IsEntry result (entry_of opener closer members)

-- what it gives where this integer is the value of `:process`
abbrev pub GivesOperation : List ℕ → Fields → Span → Token → Result OpShape Fault → Type 0
GivesOperation text fields span number result =
    (members : List Form) (g : Gathers text fields members) →
    IsOperation result
    (client_operation (number_of text number) number.start span.start span.end g.pairs)

-- the micro-operations of an operation of this kind, in a map that begins at the offset
abbrev pub GivesMops : Fields → OpKind → ℕ → Result (List MopShape) Fault → Type 0
GivesMops fields kind start shapes =
    (text : List ℕ) (members : List Form) (g : Gathers text fields members) →
    shapes ≡ mops_result (mops_of kind start g.pairs)
