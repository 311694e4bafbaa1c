-- Maps as printers write them, read in one pass over their bytes.
use Rattle.std.specs.Prelude.{◌≡◌, ◌⊎◌, ℕ, ℤ, ◌+◌, ◌-◌, ◌*◌, ◌<◌, ◌≤◌, List, [], ◌∷◌, ◌++◌, length, get_or, nat_lt, Bool, true, false, codes, Option, Some, None, IfSome, Result, Ok, Err, Vec}
use Rattle.std.specs.Global.{Global}
use Rattle.std.specs.Option.{is_some}
use Rattle.hist_types.specs.AtomTokens.{process_of}
use Rattle.hist_types.specs.Bytes.{open_square, close_square, open_brace, close_brace}
use Rattle.hist_types.specs.Entries.{atom_of, entry_of, int_of, is_named, kind_of, micro_ops_of, mops_of, transaction_of, value_of}
use Rattle.hist_types.specs.Forms.{Form, plain}
use Rattle.hist_types.specs.Refusals.{memory_fault}
use Rattle.hist_types.specs.Tokens.{Item}
use Rattle.hist_types.specs.declared.limits.TheConstants.{MAX_OPEN_COLLECTIONS, MAX_OPERATION_BYTES}
use Rattle.hist_types.specs.declared.types.Fault.{Fault}
use Rattle.hist_types.specs.declared.types.OpKind.{OpKind}
use Rattle.hist_types.specs.declared.types.OpKind.TheVariants as kinds
use Rattle.edn_lex.specs.Ahead.{going_at, IsGap, IsLoneAt, GivesAhead, GivesLone, GivesOpener, GivesCloser, GivesTriple}
use Rattle.edn_lex.specs.Kinds.{item_of}
use Rattle.edn_lex.specs.declared.ahead.TheConstants.{NUMBER_LOOK}
use Rattle.edn_lex.specs.declared.ahead.Triple.{Triple}
use Rattle.edn_lex.specs.declared.types.Token.{Token}
use Rattle.edn_lex.specs.declared.types.TokenKind.TheVariants as tokens
use Rattle.edn_ops.specs.declared.flat.FlatEntry.{FlatEntry}
use Rattle.edn_ops.specs.declared.flat.FlatEntry.TheVariants as entries
use Rattle.edn_ops.specs.declared.flat.FlatFields.{FlatFields}
use Rattle.edn_ops.specs.declared.flat.FlatOperation.{FlatOperation}
use Rattle.edn_ops.specs.declared.flat.Front.{Front}
use Rattle.edn_ops.specs.declared.flat.Owner.{Owner}
use Rattle.edn_ops.specs.declared.flat.Owner.TheVariants as owners
use Rattle.edn_ops.specs.declared.flat.Reached.{Reached}
use Rattle.edn_ops.specs.declared.flat.Reached.TheVariants as reaches
use Rattle.edn_ops.specs.declared.flat.TheConstants.{VALUE_LEVELS}
use Rattle.edn_ops.specs.declared.outline.Outline.{Outline}
use Rattle.edn_ops.specs.declared.outline.Outline.TheVariants as outlines
use Rattle.edn_ops.specs.declared.types.MopShape.{MopShape}
use Rattle.edn_ops.specs.declared.types.OpShape.{OpShape}
use Rattle.edn_ops.specs.declared.types.Span.{Span}
use Rattle.edn_ops.specs.Collections.{ReadsMember, ReadsMembers, outlined_mop}
use Rattle.edn_ops.specs.Fields.{IsEntry, fields_named, members_of, mops_result}

-- ---- members

-- From the offset up to the end the form is read, however many more collections may be opened.
pub record ReadsAhead (text : List ℕ) (deep offset : ℕ) (form : Form) (end : ℕ) : Type 0 where
  pub further : offset < end
  pub within : end ≤ length text
  pub reads :
      (closers : List ℕ) → length closers + deep ≤ MAX_OPEN_COLLECTIONS →
      ReadsMember (going_at text offset closers) form (going_at text end closers)

-- From the offset up to here these members of a collection have been read.
pub record ReadsUpTo (text : List ℕ) (deep offset : ℕ) (members : List Form) (at : ℕ)
    : Type 0 where
  pub forward : offset ≤ at
  pub within : at ≤ length text
  pub reads :
      (opener : Item) (closers : List ℕ) → length closers + deep ≤ MAX_OPEN_COLLECTIONS →
      ReadsMembers (going_at text offset closers) opener members (going_at text at closers)

-- a call passed over a form, up to the end that it gives
abbrev pub PassesAhead : List ℕ → ℕ → ℕ → Option ℕ → Type 0
PassesAhead text deep offset found =
    IfSome found (λ end. (form : Form) × ReadsAhead text deep offset form end)

-- how a micro-operation that writes, or one that reads, is printed up to its key
abbrev pub front_bytes : Bool → List ℕ
front_bytes true = codes "[:w "
front_bytes false = codes "[:r "

-- a micro-operation that writes, or one that reads, may have this form as its value
abbrev pub IsMopValue : Bool → Form → Type 0
IsMopValue true value = is_some (atom_of value) ≡ true
IsMopValue false value = is_some (value_of value) ≡ true

-- a key begins here, and then come a space, a value and a vector's closer
pub record IsMopPair (text : List ℕ) (start : ℕ) (is_write : Bool) (pair : Token × Token) : Type 0 where
  pub key : IsLoneAt text start pair.0
  pub atom : IsMopValue true (plain (item_of text pair.0))
  pub space : get_or text pair.0.end 0 ≡ 32
  pub key_within : pair.0.end < length text
  pub value : IsLoneAt text (pair.0.end + 1) pair.1
  pub is_value : IsMopValue is_write (plain (item_of text pair.1))
  pub closes : get_or text pair.1.end 0 ≡ close_square
  pub few : pair.1.end < start + 2 * NUMBER_LOOK

-- the outlines of the three forms of a vector
abbrev pub three_of : Triple → List Outline
three_of triple =
    outlines.Plain triple.first ∷ outlines.Plain triple.second ∷ outlines.Plain triple.third ∷ []

-- the tokens from the offset up to the end are a micro-operation with this shape
abbrev pub GivesMop : List ℕ → ℕ → MopShape → ℕ → Type 0
GivesMop text offset shape end =
    (triple : Triple) × GivesTriple text offset triple × (end ≡ triple.closer.end)
    × (triple.closer.end ≤ length text)
    × (Ok shape ≡ outlined_mop text triple.opener.start (three_of triple))

abbrev pub shape_of : Bool → Span → Span → MopShape
shape_of is_write key value = record { is_write = is_write; key = key; value = value }

-- a call read one more micro-operation, up to the end that it gives
abbrev pub ReadsFlatMop :
    List ℕ → ℕ → List MopShape → Result (Option ℕ) Fault → List MopShape → Type 0
ReadsFlatMop text offset old (Ok None) new = new ≡ old
ReadsFlatMop text offset old (Ok (Some end)) new =
    (form : Form) × ReadsAhead text 1 offset form end
    × ((members : List Form) → Ok old ≡ mops_result (micro_ops_of 0 members) →
    Ok new ≡ mops_result (micro_ops_of 0 (members ++ form ∷ [])))
ReadsFlatMop text offset old (Err fault) new = fault ≡ memory_fault

-- up to here these members of a transaction have been read, and have these shapes
pub record ReadsInside
    (text : List ℕ) (opener : Token) (members : List Form) (shapes : List MopShape) (at : ℕ)
    : Type 0 where
  pub up_to : ReadsUpTo text 1 opener.end members at
  pub shapes_are : Ok shapes ≡ mops_result (micro_ops_of 0 members)

-- a call read some more micro-operations, up to the end that it gives
abbrev pub ReadsFlatMops :
    List ℕ → ℕ → List MopShape → Result ℕ Fault → List MopShape → Type 0
ReadsFlatMops text offset old (Ok end) new =
    (opener : Token) (members : List Form) → ReadsInside text opener members old offset →
    (more : List Form) × ReadsInside text opener more new end
ReadsFlatMops text offset old (Err fault) new = fault ≡ memory_fault

-- a call read a transaction
abbrev pub ReadsFlatTransaction : List ℕ → ℕ → Result (Option ℕ) Fault → List MopShape → Type 0
ReadsFlatTransaction text offset (Ok None) new = Unit {0}
ReadsFlatTransaction text offset (Ok (Some end)) new =
    (form : Form) × ReadsAhead text 2 offset form end
    × (Ok new ≡ mops_result (transaction_of form))
ReadsFlatTransaction text offset (Err fault) new = fault ≡ memory_fault

-- a call read the rest of a transaction, of which some members have been read
abbrev pub ReadsFlatMembers :
    List ℕ → ℕ → List MopShape → Result (Option ℕ) Fault → List MopShape → Type 0
ReadsFlatMembers text offset old result new =
    (at : ℕ) (opener : Token) (members : List Form) →
    GivesOpener text at open_square close_square opener →
    ReadsInside text opener members old offset → ReadsFlatTransaction text at result new

-- ---- fields

-- the token is the name of the kind of operation
abbrev pub NamesKind : List ℕ → OpKind × Token → Type 0
NamesKind text found = Some found.0 ≡ kind_of (plain (item_of text found.1))

-- the fields named `:type`
abbrev pub HasKind : Option OpKind → List (Form × Form) → Type 0
HasKind None found = found ≡ []
HasKind (Some kind) found =
    (pair : Form × Form) × (found ≡ pair ∷ []) × (Some kind ≡ kind_of pair.1)

-- the form is the process's number, or no integer
abbrev pub NamesOwner : Form → Owner → Type 0
NamesOwner form (owners.Client process) =
    (number : ℤ) × (int_of form ≡ Some number) × (process_of number ≡ Some process)
NamesOwner form owners.NoClient = int_of form ≡ None

-- the fields named `:process`
abbrev pub HasOwner : Option Owner → List (Form × Form) → Type 0
HasOwner None found = found ≡ []
HasOwner (Some owner) found =
    (pair : Form × Form) × (found ≡ pair ∷ []) × NamesOwner pair.1 owner

-- the fields named `:value`
abbrev pub HasMops : Bool → List MopShape → List (Form × Form) → Type 0
HasMops false shapes found = found ≡ []
HasMops true shapes found =
    (pair : Form × Form) × (found ≡ pair ∷ [])
    × (Ok shapes ≡ mops_result (transaction_of pair.1))

-- what the kind is so far allows a transaction
abbrev pub may_have_mops : Option OpKind → Bool
may_have_mops None = true
may_have_mops (Some kinds.Invoke) = true
may_have_mops (Some kinds.Ok) = true
may_have_mops (Some kinds.Fail) = false
may_have_mops (Some kinds.Info) = false

-- what is known of these fields
pub record AreFlat
    (fields : FlatFields) (shapes : List MopShape) (pairs : List (Form × Form)) : Type 0 where
  pub kind : HasKind fields.kind (fields_named (codes ":type") pairs)
  pub owner : HasOwner fields.owner (fields_named (codes ":process") pairs)
  pub value :
      may_have_mops fields.kind ≡ true →
      HasMops fields.has_value shapes (fields_named (codes ":value") pairs)
  pub empty : fields.has_value ≡ false → shapes ≡ []

-- the same, with one more field
abbrev pub AddsFlat : FlatFields → List MopShape → Form → Form → FlatFields → List MopShape → Type 0
AddsFlat old shapes key value new more =
    (pairs : List (Form × Form)) → AreFlat old shapes pairs →
    AreFlat new more (pairs ++ (key, value) ∷ [])

-- the key is of a field that says nothing
abbrev pub IsOther : Form → Type 0
IsOther key =
    (is_named (codes ":type") key ≡ false) × (is_named (codes ":process") key ≡ false)
    × (is_named (codes ":value") key ≡ false)

-- a call read the value of the field with this name, which is no transaction
abbrev pub ReadsFlatValue : List ℕ → ℕ → List ℕ → FlatFields → Option ℕ → FlatFields → Type 0
ReadsFlatValue text offset name old None new = Unit {0}
ReadsFlatValue text offset name old (Some end) new =
    (value : Form) × ReadsAhead text VALUE_LEVELS offset value end
    × ((key : Form) (shapes : List MopShape) → is_named name key ≡ true →
    AddsFlat old shapes key value new shapes)

-- up to here these fields of a map have been read
pub record ReadsFields
    (text : List ℕ) (offset : ℕ) (pairs : List (Form × Form)) (fields : FlatFields)
    (shapes : List MopShape) (at : ℕ) : Type 0 where
  pub up_to : ReadsUpTo text VALUE_LEVELS offset (members_of pairs None) at
  pub flat : AreFlat fields shapes pairs

-- from one offset up to another there are fields that say nothing
abbrev pub PassesFields : List ℕ → ℕ → ℕ → Type 0
PassesFields text from to =
    (start : ℕ) (pairs : List (Form × Form)) (fields : FlatFields) (shapes : List MopShape) →
    ReadsFields text start pairs fields shapes from →
    (more : List (Form × Form)) × ReadsFields text start more fields shapes to

-- such a field begins here, and ends where this says
abbrev pub PassesFieldAt : List ℕ → ℕ → ℕ → Type 0
PassesFieldAt text start end = (from : ℕ) → IsGap text from start → PassesFields text from end

-- the fields that begin here are read up to the opener of a transaction, with which these are all
abbrev pub ReadsFlatFront : List ℕ → ℕ → FlatFields → Token → FlatFields → Type 0
ReadsFlatFront text offset old opener new =
    (at : ℕ) × GivesOpener text at open_square close_square opener
    × ((start from : ℕ) (pairs : List (Form × Form)) (shapes more : List MopShape) (end : ℕ) →
    IsGap text from offset → ReadsFields text start pairs old shapes from →
    ReadsFlatTransaction text at (Ok (Some end)) more →
    (all : List (Form × Form)) × ReadsFields text start all new more end)

-- `:type` and a kind that may have a transaction are here, up to this end
pub record IsPrintedKind (text : List ℕ) (start : ℕ) (found : OpKind × ℕ) : Type 0 where
  pub key : Token
  pub token : Token
  pub key_lone : IsLoneAt text start key
  pub named : is_named (codes ":type") (plain (item_of text key)) ≡ true
  pub lone : GivesLone text key.end token
  pub fits : token.end ≤ length text
  pub kind : NamesKind text (found.0, token)
  pub mops : may_have_mops (Some found.0) ≡ true
  pub end : token.end ≡ found.1

-- `:process` and a client's process come next, up to this end
pub record IsPrintedOwner (text : List ℕ) (offset : ℕ) (found : ℕ × ℕ) : Type 0 where
  pub key : Token
  pub token : Token
  pub key_lone : GivesLone text offset key
  pub named : is_named (codes ":process") (plain (item_of text key)) ≡ true
  pub lone : GivesLone text key.end token
  pub fits : token.end ≤ length text
  pub owner : NamesOwner (plain (item_of text token)) (owners.Client found.0)
  pub end : token.end ≡ found.1

-- `:value` and a transaction's opener come next, up to this end
pub record IsPrintedValue (text : List ℕ) (offset : ℕ) (end : ℕ) : Type 0 where
  pub key : Token
  pub opener : Token
  pub key_lone : GivesLone text offset key
  pub named : is_named (codes ":value") (plain (item_of text key)) ≡ true
  pub opens : GivesOpener text key.end open_square close_square opener
  pub end_is : opener.end ≡ end

-- what is known of no fields
abbrev pub no_fields_yet : FlatFields
no_fields_yet = record { kind = None; owner = None; has_value = false }

-- what is known of the fields before a transaction and of its own
abbrev pub fields_of : Front → FlatFields
fields_of front =
    record { kind = Some front.kind; owner = Some (owners.Client front.process); has_value = true }

-- the fields that begin here say this, up to the opener of a transaction
pub record IsFrontAt (text : List ℕ) (start : ℕ) (front : Front) : Type 0 where
  pub opener : Token
  pub end_is : opener.end ≡ front.members
  pub within : front.members ≤ length text
  pub mops : may_have_mops (Some front.kind) ≡ true
  pub reads : ReadsFlatFront text start no_fields_yet opener (fields_of front)

-- a call read the first fields of a map, up to the end that it gives
abbrev pub ReadsFirstFields :
    List ℕ → ℕ → Result (Option ℕ) Fault → FlatFields → List MopShape → Type 0
ReadsFirstFields text offset (Ok None) new more = Unit {0}
ReadsFirstFields text offset (Ok (Some end)) new more =
    (pairs : List (Form × Form)) × ReadsFields text offset pairs new more end
ReadsFirstFields text offset (Err fault) new more = fault ≡ memory_fault

-- a call read the field whose key begins here, up to the end that it gives
abbrev pub ReadsPlainField : List ℕ → ℕ → FlatFields → Option ℕ → FlatFields → Type 0
ReadsPlainField text start old None new = Unit {0}
ReadsPlainField text start old (Some end) new =
    (key : Token) × IsLoneAt text start key
    × (value : Form) × ReadsAhead text VALUE_LEVELS key.end value end
    × ((shapes : List MopShape) → AddsFlat old shapes (plain (item_of text key)) value new shapes)

-- the same, where a transaction is read only up to its opener
abbrev pub ReadsFlatField : List ℕ → ℕ → FlatFields → Option Reached → FlatFields → Type 0
ReadsFlatField text start old None new = Unit {0}
ReadsFlatField text start old (Some (reaches.End end)) new =
    ReadsPlainField text start old (Some end) new
ReadsFlatField text start old (Some (reaches.Opener opener)) new =
    (key : Token) × IsLoneAt text start key
    × GivesOpener text key.end open_square close_square opener
    × (opener.end ≤ length text) × (old.has_value ≡ false)
    × ((shapes more : List MopShape) (value : Form) → Ok more ≡ mops_result (transaction_of value) →
    AddsFlat old shapes (plain (item_of text key)) value new more)

-- from the offset on these fields of a map were read up to here, but for a transaction after its
-- opener
abbrev pub HasReached : List ℕ → ℕ → FlatFields → List MopShape → Reached → Type 0
HasReached text offset fields shapes (reaches.End at) =
    (pairs : List (Form × Form)) × ReadsFields text offset pairs fields shapes at
HasReached text offset fields shapes (reaches.Opener opener) =
    (shapes ≡ []) × (at : ℕ) × GivesOpener text at open_square close_square opener
    × ((more : List MopShape) (end : ℕ) → ReadsFlatTransaction text at (Ok (Some end)) more →
    (pairs : List (Form × Form)) × ReadsFields text offset pairs fields more end)

-- only fields that say nothing and blanks are from the offset up to here
abbrev pub IsBehindOthers : List ℕ → ℕ → ℕ → Type 0
IsBehindOthers text offset start =
    (at : ℕ) × PassesFields text offset at × IsGap text at start

-- from the offset on the fields of a map say this, up to the opener of a transaction
pub record IsFrontOf (text : List ℕ) (offset : ℕ) (front : Front) : Type 0 where
  pub opener : Token
  pub end_is : opener.end ≡ front.members
  pub within : front.members ≤ length text
  pub mops : may_have_mops (Some front.kind) ≡ true
  pub reached : HasReached text offset (fields_of front) [] (reaches.Opener opener)

abbrev pub place_reached : Reached → ℕ
place_reached (reaches.End at) = at
place_reached (reaches.Opener opener) = opener.end

-- ---- maps

-- the fields of a map have been read up to its closer
pub record ReadsFlatMap
    (text : List ℕ) (offset : ℕ) (fields : FlatFields) (shapes : List MopShape) (end : ℕ)
    : Type 0 where
  pub pairs : List (Form × Form)
  pub inner : ℕ
  pub closer : Token
  pub reads :
      (opener : Item) (closers : List ℕ) → length closers + VALUE_LEVELS ≤ MAX_OPEN_COLLECTIONS →
      ReadsMembers (going_at text offset closers) opener (members_of pairs None)
      (going_at text inner closers)
  pub flat : AreFlat fields shapes pairs
  pub closes : GivesCloser text inner close_brace closer
  pub end_is : end ≡ closer.end
  pub further : offset < end
  pub within : end ≤ length text

-- a token of one byte opens a map: the one that is given from the offset on, or the one after a
-- tag
abbrev pub OpensOperation : List ℕ → ℕ → Token → Type 0
OpensOperation text offset opener =
    GivesOpener text offset open_brace close_brace opener
    ⊎ ((tag : Token) × GivesAhead text offset tag × (tag.kind ≡ tokens.Tag)
    × GivesOpener text tag.end open_brace close_brace opener)

-- a call read a map's fields from the offset on
abbrev pub GivesFlatMap : List ℕ → ℕ → Result (Option ℕ) Fault → FlatFields → List MopShape → Type 0
GivesFlatMap text offset (Ok None) fields shapes = Unit {0}
GivesFlatMap text offset (Ok (Some end)) fields shapes = ReadsFlatMap text offset fields shapes end
GivesFlatMap text offset (Err fault) fields shapes = fault ≡ memory_fault

-- of fields with these micro-operations as their `:value` an operation of this kind has the others
abbrev pub AreFlatMops : FlatFields → List MopShape → OpKind → List MopShape → Type 0
AreFlatMops fields shapes kind given =
    (pairs : List (Form × Form)) (start : ℕ) → AreFlat fields shapes pairs →
    Ok given ≡ mops_result (mops_of kind start pairs)

-- they are of this kind, and have a transaction exactly if the kind has one
abbrev pub IsComplete : FlatFields → OpKind → Type 0
IsComplete fields kind =
    (fields.kind ≡ Some kind) × (fields.has_value ≡ may_have_mops (Some kind))

-- after its opener a map gives this, and ends after its closer
pub record IsFlatEntry
    (text : List ℕ) (opener : Token) (shape : Option OpShape) (end : ℕ) : Type 0 where
  pub members : List Form
  pub inner : ℕ
  pub closer : Token
  pub reads :
      (closers : List ℕ) → length closers + VALUE_LEVELS ≤ MAX_OPEN_COLLECTIONS →
      ReadsMembers (going_at text opener.end closers) (item_of text opener) members
      (going_at text inner closers)
  pub closes : GivesCloser text inner close_brace closer
  pub end_is : end ≡ closer.end
  pub further : opener.end < end
  pub within : end ≤ length text
  pub entry : IsEntry (Ok shape) (entry_of (item_of text opener) (item_of text closer) members)

-- an operation with its micro-operations
abbrev pub shape_with : Vec MopShape Global → FlatOperation → OpShape
shape_with mops o = record { span = o.span; kind = o.kind; process = o.process; mops = mops }

abbrev pub result_with :
    Vec MopShape Global → Result (Option FlatOperation) Fault → Result (Option OpShape) Fault
result_with mops (Ok None) = Ok None
result_with mops (Ok (Some o)) = Ok (Some (shape_with mops o))
result_with mops (Err fault) = Err fault

-- what a map gives is this operation, which isn't too long
abbrev pub IsShortOperation : ℕ → ℕ → OpKind → ℕ → FlatEntry → Type 0
IsShortOperation start end kind process entry =
    (let span : Span = record { start = start; end = end } in
    entry ≡ entries.Operation (record { span = span; kind = kind; process = process }))
    × (nat_lt MAX_OPERATION_BYTES (end - start) ≡ false)

-- a call gave what a map gives, or nothing
abbrev pub GivesFlatEntry :
    List ℕ → Token → Result (Option FlatEntry) Fault → Vec MopShape Global → Type 0
GivesFlatEntry text opener (Ok None) mops = Unit {0}
GivesFlatEntry text opener (Ok (Some (entries.Operation o))) mops =
    IsFlatEntry text opener (Some (shape_with mops o)) o.span.end
GivesFlatEntry text opener (Ok (Some (entries.Skipped end))) mops = IsFlatEntry text opener None end
GivesFlatEntry text opener (Err fault) mops = fault ≡ memory_fault
