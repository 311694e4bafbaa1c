-- What the tokens of an operation's text are read as: that operation.
use Rattle.std.proofs.Common.{◌≡◌, ℕ, ℤ, ◌+◌, ◌-◌, ◌≤◌, List, [], ◌∷◌, ◌++◌, length, false, Option, Some, Ok, refl, sym, ◌∙◌, ap, arith}
use Rattle.std.specs.Prelude.{codes, decimal, nat_lt}
use Rattle.std.specs.List.{join_by}
use Rattle.std.proofs.lemmas.Bool.{le-leb, le-ltb}
use Rattle.std.proofs.lemmas.List.{length-append}
use Rattle.hist_types.specs.Operations.{Mop, Operation}
use Rattle.hist_types.specs.declared.limits.TheConstants.{MAX_PROCESS, MAX_OPERATION_BYTES}
use Rattle.hist_types.specs.declared.types.Fault.{Fault}
use Rattle.hist_types.specs.declared.types.OpKind.{OpKind}
use Rattle.hist_types.specs.declared.types.OpKind.TheVariants as kinds
use Rattle.hist_types.specs.Tokens.{Item, Opener, Closer, Keyword, Int}
use Rattle.hist_types.specs.AtomTokens.{int_value, process_of}
use Rattle.hist_types.specs.Entries.{Entry, operation, PlacedMop, PlacedOperation, operation_of, pairs_of, entry_of, field, kind_of, mops_of, micro_ops_of, client_operation}
use Rattle.hist_types.specs.Forms.{Form, plain, collection, forms_of, list_of, Open}
use Rattle.hist_types.specs.Reading.{reading_from, nothing_open, after_entries}
use Rattle.hist_types.specs.CanonicalText.{mop_text, kind_text, value_field_text, operation_text}
use Rattle.edn_ops.specs.Canonical.{OperationCanBeRead}
use Rattle.edn_ops.proofs.ReadsBack.Chunks.{Chunk, token, item_at, tokens_at}
use Rattle.edn_ops.proofs.ReadsBack.Runs.{decimal_value}
use Rattle.edn_ops.proofs.ReadsBack.Mops.{mop_form, mop_placed, mops_made, after_mops, mops_read, mops_back, mops_placed, mops_length}
use Rattle.edn_ops.proofs.ReadsBack.Whole.{value_chunks, operation_chunks}

-- ---- forms

-- where the vector begins
abbrev pub vector_at : ℕ → ℕ
vector_at at = at + 1 + 1 + length (codes ":value") + 1

-- the vector's form
abbrev pub vector_form : ℕ → List Mop → Form
vector_form at mops =
    collection (item_at (vector_at at) Opener (91 ∷ [])) (item_at (after_mops (vector_at at + 1) mops) Closer (93 ∷ []))
    (forms_of (mops_made mop_form (vector_at at + 1) mops))

-- what comes after the field that an invoke and an ok have more
abbrev pub after_value : OpKind → ℕ → List Mop → ℕ
after_value kinds.Invoke at mops = after_mops (vector_at at + 1) mops + 1
after_value kinds.Ok at mops = after_mops (vector_at at + 1) mops + 1
after_value kinds.Fail at mops = at
after_value kinds.Info at mops = at

-- the forms of that field
abbrev pub value_forms : OpKind → ℕ → List Mop → List Form
value_forms kinds.Invoke at mops = plain (item_at (at + 1 + 1) Keyword (codes ":value")) ∷ vector_form at mops ∷ []
value_forms kinds.Ok at mops = plain (item_at (at + 1 + 1) Keyword (codes ":value")) ∷ vector_form at mops ∷ []
value_forms kinds.Fail at mops = []
value_forms kinds.Info at mops = []

-- where the kind begins
abbrev pub kind_at : ℕ → ℕ
kind_at at = at + 1 + length (codes ":type") + 1

-- where the process begins
abbrev pub process_at : ℕ → OpKind → ℕ
process_at at kind = kind_at at + length (kind_text kind) + 1 + 1 + length (codes ":process") + 1

-- what comes after the process
abbrev pub after_process : ℕ → Operation → ℕ
after_process at o = process_at at o.kind + length (decimal o.process)

-- where the closing brace stands
abbrev pub closer_at : ℕ → Operation → ℕ
closer_at at o = after_value o.kind (after_process at o) o.mops

-- what comes after the operation
abbrev pub after_operation : ℕ → Operation → ℕ
after_operation at o = closer_at at o + 1

-- the members of the map up to the process
abbrev pub first_forms : ℕ → Operation → List Form
first_forms at o =
    plain (item_at (at + 1) Keyword (codes ":type"))
    ∷ plain (item_at (kind_at at) Keyword (kind_text o.kind))
    ∷ plain (item_at (kind_at at + length (kind_text o.kind) + 1 + 1) Keyword (codes ":process"))
    ∷ plain (item_at (process_at at o.kind) Int (decimal o.process)) ∷ []

-- all members of the map
abbrev pub inside_forms : ℕ → Operation → List Form
inside_forms at o = first_forms at o ++ value_forms o.kind (after_process at o) o.mops

-- what is open inside the map
abbrev inside_map : Item → List Form → Open
inside_map opener members = record { marks = []; collections = record { opener = opener; members = members; marks = [] } ∷ [] }

-- the tokens of a vector make its form
vector_read :
    (start at : ℕ) (mops : List Mop) (members : List Form) (more : List Chunk) (ending : Option Fault)
    → reading_from (inside_map (item_at start Opener (123 ∷ [])) members) (tokens_at at (value_chunks kinds.Invoke mops more)) ending
    ≡ reading_from (inside_map (item_at start Opener (123 ∷ [])) ((members ++ plain (item_at (at + 1 + 1) Keyword (codes ":value")) ∷ []) ++ vector_form at mops ∷ []))
    (tokens_at (after_value kinds.Invoke at mops) more) ending
vector_read start at mops members more ending =
    mops_read (vector_at at + 1) mops (token Closer (93 ∷ []) ∷ more) ending (item_at (vector_at at) Opener (91 ∷ []))
    (record { opener = item_at start Opener (123 ∷ []); members = members ++ plain (item_at (at + 1 + 1) Keyword (codes ":value")) ∷ []; marks = [] })

-- the tokens of the field make its forms
value_read :
    (kind : OpKind) (start at : ℕ) (mops : List Mop) (a b c d : Form) (more : List Chunk) (ending : Option Fault)
    → reading_from (inside_map (item_at start Opener (123 ∷ [])) (a ∷ b ∷ c ∷ d ∷ [])) (tokens_at at (value_chunks kind mops more)) ending
    ≡ reading_from (inside_map (item_at start Opener (123 ∷ [])) (a ∷ b ∷ c ∷ d ∷ value_forms kind at mops)) (tokens_at (after_value kind at mops) more) ending
value_read kinds.Invoke start at mops a b c d more ending = vector_read start at mops (a ∷ b ∷ c ∷ d ∷ []) more ending
value_read kinds.Ok start at mops a b c d more ending = vector_read start at mops (a ∷ b ∷ c ∷ d ∷ []) more ending
value_read kinds.Fail start at mops a b c d more ending = refl
value_read kinds.Info start at mops a b c d more ending = refl

-- a closed map gives its entry
closed_read :
    (start at : ℕ) (members : List Form) (more : List Chunk) (ending : Option Fault) (entry : Entry)
    → entry_of (item_at start Opener (123 ∷ [])) (item_at at Closer (125 ∷ [])) members ≡ Ok entry
    → reading_from (inside_map (item_at start Opener (123 ∷ [])) members) (tokens_at at (token Closer (125 ∷ []) ∷ more)) ending
    ≡ after_entries (entry ∷ []) (reading_from nothing_open (tokens_at (at + 1) more) ending)
closed_read start at members more ending entry e = rw e refl

-- ---- the operation

-- the micro-operations in their places
abbrev pub placed_mops : OpKind → ℕ → List Mop → List PlacedMop
placed_mops kinds.Invoke at mops = mops_made mop_placed (vector_at at + 1) mops
placed_mops kinds.Ok at mops = mops_made mop_placed (vector_at at + 1) mops
placed_mops kinds.Fail at mops = []
placed_mops kinds.Info at mops = []

-- the operation in its place
abbrev pub placed_at : ℕ → Operation → PlacedOperation
placed_at at o =
    record { kind = o.kind; process = o.process; mops = placed_mops o.kind (after_process at o) o.mops; start = at; end = after_operation at o }

-- the list of forms is what it was made of
list_of-forms : (fs : List Form) → list_of (forms_of fs) ≡ fs
list_of-forms [] = refl
list_of-forms (f ∷ fs) = ap (λ (xs : List Form). f ∷ xs) (list_of-forms fs)

-- a vector is read as its micro-operations
vector_back : (at : ℕ) (mops : List Mop) (found : List PlacedMop) → micro_ops_of 0 (mops_made mop_form at mops) ≡ Ok found → micro_ops_of 0 (list_of (forms_of (mops_made mop_form at mops))) ≡ Ok found
vector_back at mops found e = ap (micro_ops_of 0) (list_of-forms (mops_made mop_form at mops)) ∙ e

-- the parts of an operation that were found make it
client_back :
    (number : ℤ) (place start end : ℕ) (pairs : List (Form × Form)) (kind : OpKind) (process : ℕ) (mops : List PlacedMop) (type : Form)
    → process_of number ≡ Some process → nat_lt MAX_OPERATION_BYTES (end - start) ≡ false → field (codes ":type") start pairs ≡ Ok type
    → kind_of type ≡ Some kind → mops_of kind start pairs ≡ Ok mops
    → client_operation number place start end pairs ≡ Ok (operation (record { kind = kind; process = process; mops = mops; start = start; end = end }))
client_back number place start end pairs kind process mops type p b t k m = rw (p, b, t, k, m) refl

-- a process in range is read as itself
process_back : (process : ℕ) → process ≤ MAX_PROCESS → process_of (int_value (decimal process)) ≡ Some process
process_back process h =
    let value = decimal_value process (omega (arith, h)) in
    rw (value, le-leb process MAX_PROCESS h) refl

-- the field is as long as its text
value_length : (kind : OpKind) (at : ℕ) (mops : List Mop) → after_value kind at mops ≡ at + length (value_field_text kind mops)
value_length kinds.Invoke at mops = omega (arith, mops_length (vector_at at + 1) mops, length-append (join_by mop_text (codes " ") mops) (codes "]"))
value_length kinds.Ok at mops = omega (arith, mops_length (vector_at at + 1) mops, length-append (join_by mop_text (codes " ") mops) (codes "]"))
value_length kinds.Fail at mops = omega arith
value_length kinds.Info at mops = omega arith

-- an operation is as long as its text
pub operation_length : (at : ℕ) (o : Operation) → after_operation at o ≡ at + length (operation_text o)
operation_length at o = simp length-append (omega (arith, value_length o.kind (after_process at o) o.mops))

-- it is not too long
short : (at : ℕ) (o : Operation) → OperationCanBeRead o → nat_lt MAX_OPERATION_BYTES (after_operation at o - at) ≡ false
short at o h = le-ltb MAX_OPERATION_BYTES _ (omega (arith, operation_length at o, h.bytes))

-- its fields make the operation
from_fields :
    (at : ℕ) (o : Operation) (pairs : List (Form × Form)) (mops : List PlacedMop) → OperationCanBeRead o
    → field (codes ":type") at pairs ≡ Ok (plain (item_at (kind_at at) Keyword (kind_text o.kind)))
    → kind_of (plain (item_at (kind_at at) Keyword (kind_text o.kind))) ≡ Some o.kind
    → mops_of o.kind at pairs ≡ Ok mops
    → client_operation (int_value (decimal o.process)) (process_at at o.kind) at (after_operation at o) pairs
    ≡ Ok (operation (record { kind = o.kind; process = o.process; mops = mops; start = at; end = after_operation at o }))
from_fields at o pairs mops h t k m =
    client_back (int_value (decimal o.process)) (process_at at o.kind) at (after_operation at o) pairs o.kind o.process mops
    (plain (item_at (kind_at at) Keyword (kind_text o.kind))) (process_back o.process h.process) (short at o h) t k m

-- what stands between the braces gives the operation
entry_back :
    (kind : OpKind) (process at : ℕ) (mops : List Mop) → (let o : Operation = record { kind = kind; process = process; mops = mops } in
    OperationCanBeRead o → entry_of (item_at at Opener (123 ∷ [])) (item_at (closer_at at o) Closer (125 ∷ [])) (inside_forms at o) ≡ Ok (operation (placed_at at o)))
entry_back kinds.Invoke process at mops h =
    let o : Operation = record { kind = kinds.Invoke; process = process; mops = mops } in
    let vector = vector_at (after_process at o) + 1 in
    from_fields at o (pairs_of (inside_forms at o)) _ h refl refl (vector_back vector mops (mops_made mop_placed vector mops) (mops_back vector mops h.mops.0 h.mops.1))
entry_back kinds.Ok process at mops h =
    let o : Operation = record { kind = kinds.Ok; process = process; mops = mops } in
    let vector = vector_at (after_process at o) + 1 in
    from_fields at o (pairs_of (inside_forms at o)) _ h refl refl (vector_back vector mops (mops_made mop_placed vector mops) (mops_back vector mops h.mops.0 h.mops.1))
entry_back kinds.Fail process at mops h =
    let o : Operation = record { kind = kinds.Fail; process = process; mops = mops } in
    from_fields at o (pairs_of (inside_forms at o)) [] h refl refl refl
entry_back kinds.Info process at mops h =
    let o : Operation = record { kind = kinds.Info; process = process; mops = mops } in
    from_fields at o (pairs_of (inside_forms at o)) [] h refl refl refl

-- the tokens of an operation are read as it, and then what comes after it
pub operation_read :
    (at : ℕ) (o : Operation) (more : List Chunk) (ending : Option Fault) → OperationCanBeRead o
    → reading_from nothing_open (tokens_at at (operation_chunks o more)) ending
    ≡ after_entries (operation (placed_at at o) ∷ []) (reading_from nothing_open (tokens_at (after_operation at o) more) ending)
operation_read at o more ending h =
    value_read o.kind at (after_process at o) o.mops
    (plain (item_at (at + 1) Keyword (codes ":type")))
    (plain (item_at (kind_at at) Keyword (kind_text o.kind)))
    (plain (item_at (kind_at at + length (kind_text o.kind) + 1 + 1) Keyword (codes ":process")))
    (plain (item_at (process_at at o.kind) Int (decimal o.process))) (token Closer (125 ∷ []) ∷ more) ending
    ∙ closed_read at (closer_at at o) (inside_forms at o) more ending (operation (placed_at at o)) (entry_back o.kind o.process at o.mops h)

-- wherever it stands, it is the operation
placed_kind : (kind : OpKind) (process at : ℕ) (mops : List Mop) → (let o : Operation = record { kind = kind; process = process; mops = mops } in OperationCanBeRead o → operation_of (placed_at at o) ≡ o)
placed_kind kinds.Invoke process at mops h = ap (λ (ms : List Mop). record { kind = kinds.Invoke; process = process; mops = ms }) (mops_placed _ mops)
placed_kind kinds.Ok process at mops h = ap (λ (ms : List Mop). record { kind = kinds.Ok; process = process; mops = ms }) (mops_placed _ mops)
placed_kind kinds.Fail process at mops h = ap (λ (ms : List Mop). record { kind = kinds.Fail; process = process; mops = ms }) (sym h.mops)
placed_kind kinds.Info process at mops h = ap (λ (ms : List Mop). record { kind = kinds.Info; process = process; mops = ms }) (sym h.mops)

pub placed_back : (at : ℕ) (o : Operation) → OperationCanBeRead o → operation_of (placed_at at o) ≡ o
placed_back at o h = placed_kind o.kind o.process at o.mops h
