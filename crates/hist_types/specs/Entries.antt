-- Operations in a text (Jepsen's in EDN; what is marked so is this project's own).
--
-- An operation is a map with the fields `:type`, `:process` and, where it invokes a transaction or
-- one ended ok, `:value`. Whatever is no value of these three is passed over. A map whose process
-- is no integer is skipped (own): it is no client's. An operation's checks come when its map has
-- been closed, in this order:
--     25 OddMap           the map has an odd number of members                        at its `{`
--        `:process`       28 MissingField at the `{`, 29 DuplicateField at the second key
--                         where its value is no integer the operation is skipped
--     31 BadProcess       an integer outside 0 to 2147483647                          at the value
--     35 TooLong          more than 65,536 bytes from `{` to `}`                      at the `{`
--        `:type`          28 and 29 as above; 30 BadType where it is none of the four at the value
--        `:value`         for invoke and ok: 28 and 29 as above
--     32 NotTxn           a `:value` that is no vector or list                        at the value
-- and for each member of the value in order
--     36 TooManyMicroOps  it is the 257th                                             at the member
--     32 NotTxn           no vector or list of three forms
--                         that begins with `:r` or `:w`                               at the member
--     33 BadAtom          the key is no atom                                          at the key
--     34 NilWritten       a `:w` of nil                                               at the value
--     33 BadAtom          the value is no atom, and no nil of a `:r`                  at the value
-- The place of a tagged form is that of its tag.
use Rattle.std.specs.Prelude.{ℕ, ℤ, suc, ◌+◌, ◌-◌, ◌%◌, List, [], ◌∷◌, length, Bool, true, false, ◌==◌, nat_lt, nat_le, if◌then◌else◌, bytes_eq, codes, Option, Some, None, Result, Ok, Err, option_map, ok_or, filter, map}
use Rattle.std.specs.Option.{option_map_or}
use Rattle.hist_types.specs.Atoms.{Atom, Value}
use Rattle.hist_types.specs.AtomTokens.{atom_of_token, is_nil_kind, keyword_of_token, int_of_token, process_of}
use Rattle.hist_types.specs.Forms.{Form, plain, collection, list_of, place_of, is_vector_or_list}
use Rattle.hist_types.specs.Operations.{Mop, read, write, Operation}
use Rattle.hist_types.specs.Tokens.{Item, byte_fault}
use Rattle.hist_types.specs.declared.limits.TheConstants.{MAX_MICRO_OPS, MAX_OPERATION_BYTES}
use Rattle.hist_types.specs.declared.types.Fault.{Fault}
use Rattle.hist_types.specs.declared.types.OpKind.{OpKind}
use Rattle.hist_types.specs.declared.types.OpKind.TheVariants as kinds
use Rattle.hist_types.specs.declared.types.Refusal.{Refusal}
use Rattle.hist_types.specs.declared.types.Refusal.TheVariants.{OddMap, MissingField, DuplicateField, BadType, BadProcess, NotTxn, BadAtom, NilWritten, TooLong, TooManyMicroOps}

-- ---- what a map gives

-- a micro-operation, with the tokens of its key and of its value
pub record PlacedMop : Type 0 where
  pub mop : Mop
  pub key : Item
  pub value : Item

-- an operation in its text: its map goes from the offset `start` up to the offset `end`
pub record PlacedOperation : Type 0 where
  pub kind : OpKind
  pub process : ℕ
  pub mops : List PlacedMop
  pub start : ℕ
  pub end : ℕ

-- what a map in an operation's place gives
pub data Entry : Type 0 where
  operation : PlacedOperation → Entry
  skipped : Entry

-- the operation, wherever it is
abbrev pub operation_of : PlacedOperation → Operation
operation_of o =
    record { kind = o.kind; process = o.process; mops = map (λ (m : PlacedMop). m.mop) o.mops }

-- the operations among the entries, with their places
abbrev pub placed_operations : List Entry → List PlacedOperation
placed_operations [] = []
placed_operations (operation o ∷ entries) = o ∷ placed_operations entries
placed_operations (skipped ∷ entries) = placed_operations entries

abbrev pub operations_of : List Entry → List Operation
operations_of entries = map operation_of (placed_operations entries)

-- ---- forms that stand for something

-- the atom that a form spells, with its token
abbrev pub atom_of : Form → Option (Item × Atom)
atom_of (plain t) = option_map (λ atom. (t, atom)) (atom_of_token t.kind t.bytes)
atom_of f = None

abbrev pub is_nil : Form → Bool
is_nil (plain t) = is_nil_kind t.kind
is_nil f = false

-- the atom or nil that a form spells, with its token
abbrev pub value_of : Form → Option (Item × Value)
value_of (plain t) =
    if is_nil_kind t.kind then Some (t, None)
    else option_map (λ atom. (t, Some atom)) (atom_of_token t.kind t.bytes)
value_of f = None

-- the bytes of a form that is a keyword
abbrev pub keyword_of : Form → Option (List ℕ)
keyword_of (plain t) = keyword_of_token t.kind t.bytes
keyword_of f = None

abbrev pub is_named : List ℕ → Form → Bool
is_named name f = option_map_or (bytes_eq name) (keyword_of f) false

-- the number of a form that is an integer
abbrev pub int_of : Form → Option ℤ
int_of (plain t) = int_of_token t.kind t.bytes
int_of f = None

-- the members of a form that is a vector or a list
abbrev pub elements_of : Form → Option (List Form)
elements_of (collection opener closer members) =
    if is_vector_or_list opener then Some (list_of members) else None
elements_of f = None

-- ---- checks

infixl 10 ◌>>=◌
-- a step that comes only if the one before has no fault
abbrev pub ◌>>=◌ : {A B : Type 0} → Result A Fault → (A → Result B Fault) → Result B Fault
(Ok x) >>= next = next x
(Err fault) >>= next = Err fault

-- refused at the offset where the test holds
abbrev pub refuse_if : Bool → Refusal → ℕ → Result (Unit {0}) Fault
refuse_if test refusal offset = if test then Err (byte_fault refusal offset) else Ok tt

-- a value, or else refused at the offset
abbrev pub or_refuse : {A : Type 0} → Option A → Refusal → ℕ → Result A Fault
or_refuse o refusal offset = ok_or o (byte_fault refusal offset)

-- ---- fields of a map

-- the members of a map two by two: keys and values
abbrev pub pairs_of : List Form → List (Form × Form)
pairs_of [] = []
pairs_of (k ∷ []) = []
pairs_of (k ∷ v ∷ rest) = (k, v) ∷ pairs_of rest

-- the value of the one field; the map begins at the offset
abbrev pub the_one : ℕ → List (Form × Form) → Result Form Fault
the_one offset [] = Err (byte_fault MissingField offset)
the_one offset (pair ∷ []) = Ok pair.1
the_one offset (pair ∷ second ∷ more) = Err (byte_fault DuplicateField (place_of second.0))

-- the value of the field with this name
abbrev pub field : List ℕ → ℕ → List (Form × Form) → Result Form Fault
field name offset pairs = the_one offset (filter (λ pair. is_named name pair.0) pairs)

abbrev pub kind_of : Form → Option OpKind
kind_of f =
    if is_named (codes ":invoke") f then Some kinds.Invoke
    else (if is_named (codes ":ok") f then Some kinds.Ok
    else (if is_named (codes ":fail") f then Some kinds.Fail
    else (if is_named (codes ":info") f then Some kinds.Info
    else None)))

-- ---- micro-operations

-- whether a member is a write, by its first form
abbrev pub is_write_of : Form → Option Bool
is_write_of f =
    if is_named (codes ":w") f then Some true
    else (if is_named (codes ":r") f then Some false else None)

abbrev pub placed_write : Item × Atom → Item × Atom → PlacedMop
placed_write key value = record { mop = write key.1 value.1; key = key.0; value = value.0 }

abbrev pub placed_read : Item × Atom → Item × Value → PlacedMop
placed_read key value = record { mop = read key.1 value.1; key = key.0; value = value.0 }

-- a micro-operation by its key and its value
abbrev pub read_or_write : Bool → Item × Atom → Form → Result PlacedMop Fault
read_or_write true key f =
    refuse_if (is_nil f) NilWritten (place_of f) >>= λ _.
    or_refuse (atom_of f) BadAtom (place_of f) >>= λ value.
    Ok (placed_write key value)
read_or_write false key f =
    or_refuse (value_of f) BadAtom (place_of f) >>= λ value. Ok (placed_read key value)

-- a member of three forms; it begins at the offset
abbrev pub micro_op_of : ℕ → Option (List Form) → Result PlacedMop Fault
micro_op_of offset (Some (name ∷ key ∷ value ∷ [])) =
    or_refuse (is_write_of name) NotTxn offset >>= λ is_write.
    or_refuse (atom_of key) BadAtom (place_of key) >>= λ k.
    read_or_write is_write k value
micro_op_of offset other = Err (byte_fault NotTxn offset)

-- the members of a transaction, of which `before` came before
abbrev pub micro_ops_of : (before : ℕ) → List Form → Result (List PlacedMop) Fault
micro_ops_of before [] = Ok []
micro_ops_of before (f ∷ rest) =
    refuse_if (nat_le MAX_MICRO_OPS before) TooManyMicroOps (place_of f) >>= λ _.
    micro_op_of (place_of f) (elements_of f) >>= λ mop.
    micro_ops_of (suc before) rest >>= λ mops.
    Ok (mop ∷ mops)

abbrev pub transaction_of : Form → Result (List PlacedMop) Fault
transaction_of value = or_refuse (elements_of value) NotTxn (place_of value) >>= micro_ops_of 0

-- only an invoke and an ok have a transaction
abbrev pub mops_of : OpKind → ℕ → List (Form × Form) → Result (List PlacedMop) Fault
mops_of kinds.Invoke offset pairs = field (codes ":value") offset pairs >>= transaction_of
mops_of kinds.Ok offset pairs = field (codes ":value") offset pairs >>= transaction_of
mops_of kinds.Fail offset pairs = Ok []
mops_of kinds.Info offset pairs = Ok []

-- ---- a closed map

-- a client's operation, by the value of its process and the place of that value; the map goes from
-- `start` to `end`
abbrev pub client_operation : ℤ → ℕ → (start end : ℕ) → List (Form × Form) → Result Entry Fault
client_operation number place start end pairs =
    or_refuse (process_of number) BadProcess place >>= λ process.
    refuse_if (nat_lt MAX_OPERATION_BYTES (end - start)) TooLong start >>= λ _.
    field (codes ":type") start pairs >>= λ type.
    or_refuse (kind_of type) BadType (place_of type) >>= λ kind.
    mops_of kind start pairs >>= λ mops.
    Ok (operation (record {
      kind = kind;
      process = process;
      mops = mops;
      start = start;
      end = end;
    }))

-- an operation whose process is no integer is skipped
abbrev pub entry_by : Option ℤ → ℕ → (start end : ℕ) → List (Form × Form) → Result Entry Fault
entry_by None place start end pairs = Ok skipped
entry_by (Some number) place start end pairs = client_operation number place start end pairs

abbrev pub end_of : Item → ℕ
end_of item = item.start + length item.bytes

-- what a map in an operation's place gives, once it is closed
abbrev pub entry_of : (opener closer : Item) → List Form → Result Entry Fault
entry_of opener closer members =
    refuse_if (length members % 2 == 1) OddMap opener.start >>= λ _.
    field (codes ":process") opener.start (pairs_of members) >>= λ process.
    entry_by (int_of process) (place_of process) opener.start (end_of closer) (pairs_of members)
