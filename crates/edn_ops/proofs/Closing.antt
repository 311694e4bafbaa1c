-- What a closed map gives, step by step.
use Rattle.std.proofs.Common.{◌≡◌, ℕ, ℤ, ◌⊎◌, inl, inr, List, [], ◌∷◌, Bool, false, codes, Option, Some, None, Result, Ok, Err, refl, sym, ap, subst, ◌∙◌, map, nat_lt, ◌-◌, ◌≤◌, ◌%◌, ◌==◌, length, arith}
use Rattle.std.proofs.lemmas.Bool.{le-ltb}
use Rattle.std.specs.Prelude.{IfSome, IsErrAnd}
use Rattle.std.specs.List.{slice_get}
use Rattle.std.specs.Option.{option_map, is_some}
use Rattle.hist_types.specs.Entries.{PlacedMop, Entry, operation, skipped, ◌>>=◌, the_one, field, transaction_of, mops_of, kind_of, client_operation, or_refuse, refuse_if, int_of, entry_by, entry_of, end_of, pairs_of}
use Rattle.hist_types.specs.Forms.{Form, place_of}
use Rattle.hist_types.specs.AtomTokens.{process_of}
use Rattle.hist_types.specs.Tokens.{Item, byte_fault}
use Rattle.hist_types.specs.declared.limits.TheConstants.{MAX_OPERATION_BYTES}
use Rattle.hist_types.specs.declared.types.Fault.{Fault}
use Rattle.hist_types.specs.declared.types.Refusal.TheVariants.{BadType, BadProcess, TooLong, OddMap}
use Rattle.hist_types.specs.declared.types.OpKind.{OpKind}
use Rattle.hist_types.specs.declared.types.OpKind.TheVariants as kinds
use Rattle.edn_ops.specs.declared.types.MopShape.{MopShape}
use Rattle.edn_ops.specs.declared.types.OpShape.{OpShape}
use Rattle.edn_ops.specs.Outlines.{outline, outline_of}
use Rattle.edn_ops.specs.Fields.{result_outline, mops_result, fields_named, members_of, Gathers, IsOperation, IsEntry}
use Rattle.edn_ops.specs.declared.fields.Fields.{Fields}
use Rattle.edn_ops.specs.Shapes.{mop_shape_of}
use Rattle.edn_ops.proofs.OutlineLemmas.{kind_of-outline, place_of-outline, int_of-outline}

-- ---- steps

pub bind_ok : {A B : Type 0} (r : Result A Fault) (x : A) (next : A → Result B Fault) → r ≡ Ok x → (r >>= next) ≡ next x
bind_ok r x next e = ap (λ r. r >>= next) e

pub bind_err : {A B : Type 0} (r : Result A Fault) (fault : Fault) (next : A → Result B Fault) → r ≡ Err fault → (r >>= next) ≡ Err fault
bind_err r fault next e = ap (λ r. r >>= next) e

-- no field, or two
pub one_err : (fault : Fault) (r : Result Form Fault) → Err fault ≡ result_outline r → r ≡ Err fault
one_err fault r h = grind arith

-- the one field
pub one_ok : (o : Form) (r : Result Form Fault) → Ok o ≡ result_outline r → (f : Form) × (r ≡ Ok f) × (outline f ≡ o)
one_ok o r f = grind arith

-- ---- micro-operations

-- only an invoke and an ok have a transaction
abbrev pub HasValue : OpKind → Type 0
HasValue kind = (start : ℕ) (pairs : List (Form × Form)) → mops_of kind start pairs ≡ (field (codes ":value") start pairs >>= transaction_of)

pub no_value : (kind : OpKind) (start : ℕ) (pairs : List (Form × Form)) (fault : Fault) → HasValue kind → Err fault ≡ result_outline (the_one start (fields_named (codes ":value") pairs)) → mops_of kind start pairs ≡ Err fault
no_value kind start pairs fault has e = has start pairs ∙ bind_err (the_one start (fields_named (codes ":value") pairs)) fault transaction_of (one_err fault (the_one start (fields_named (codes ":value") pairs)) e)

the_first : (start : ℕ) (found : List (Form × Form)) (o : Form) → Ok o ≡ result_outline (the_one start found) → (pair : Form × Form) × (slice_get found 0 ≡ Some pair) × (the_one start found ≡ Ok pair.1)
the_first start found o pair = grind arith

pub value_mops : (kind : OpKind) (start : ℕ) (pairs : List (Form × Form)) (o : Form) (mops : Result (List MopShape) Fault) → HasValue kind → Ok o ≡ result_outline (the_one start (fields_named (codes ":value") pairs))
    → IfSome (slice_get (fields_named (codes ":value") pairs) 0) (λ pair. mops ≡ mops_result (transaction_of pair.1)) → mops ≡ mops_result (mops_of kind start pairs)
value_mops kind start pairs o mops has e is =
    let found = fields_named (codes ":value") pairs in
    let first = the_first start found o e in
    let here : mops ≡ mops_result (transaction_of first.0.1) = subst (λ (x : Option (Form × Form)). IfSome x (λ pair. mops ≡ mops_result (transaction_of pair.1))) first.1 is in
    here ∙ sym (ap mops_result (has start pairs ∙ bind_ok (the_one start found) first.0.1 transaction_of first.2))

pub has_value : (kind : OpKind) → (kind ≡ kinds.Invoke) ⊎ (kind ≡ kinds.Ok) → HasValue kind
has_value kind (inl e) start pairs = ap (λ (k : OpKind). mops_of k start pairs) e
has_value kind (inr e) start pairs = ap (λ (k : OpKind). mops_of k start pairs) e

-- ---- a client's operation

-- what is left to check once the kind is known
abbrev by_kind : (process start end : ℕ) → List (Form × Form) → OpKind → Result Entry Fault
by_kind process start end pairs kind = mops_of kind start pairs >>= λ mops. Ok (operation (record { kind = kind; process = process; mops = mops; start = start; end = end }))

-- and once the value of `:type` is
abbrev by_type : (process start end : ℕ) → List (Form × Form) → Form → Result Entry Fault
by_type process start end pairs type = or_refuse (kind_of type) BadType (place_of type) >>= by_kind process start end pairs

-- the process is in range, and the map is short enough
pub record IsFit (number : ℤ) (process start end : ℕ) : Type 0 where
  pub process_is : process_of number ≡ Some process
  pub short : nat_lt MAX_OPERATION_BYTES (end - start) ≡ false

fit : (number : ℤ) (place process start end : ℕ) (pairs : List (Form × Form)) → IsFit number process start end → client_operation number place start end pairs ≡ (field (codes ":type") start pairs >>= by_type process start end pairs)
fit number place process start end pairs is =
    ap (λ (o : Option ℕ). or_refuse o BadProcess place >>= λ process. refuse_if (nat_lt MAX_OPERATION_BYTES (end - start)) TooLong start >>= λ _. field (codes ":type") start pairs >>= by_type process start end pairs) is.process_is
    ∙ ap (λ (t : Bool). refuse_if t TooLong start >>= λ _. field (codes ":type") start pairs >>= by_type process start end pairs) is.short

pub no_type : (number : ℤ) (place process start end : ℕ) (pairs : List (Form × Form)) (fault : Fault) → IsFit number process start end
    → Err fault ≡ result_outline (the_one start (fields_named (codes ":type") pairs)) → client_operation number place start end pairs ≡ Err fault
no_type number place process start end pairs fault is e =
    let found = the_one start (fields_named (codes ":type") pairs) in
    fit number place process start end pairs is ∙ bind_err found fault (by_type process start end pairs) (one_err fault found e)

typed : (number : ℤ) (place process start end : ℕ) (pairs : List (Form × Form)) (o : Form) (kind : Option OpKind) → IsFit number process start end
    → Ok o ≡ result_outline (the_one start (fields_named (codes ":type") pairs)) → kind ≡ kind_of o
    → client_operation number place start end pairs ≡ (or_refuse kind BadType (place_of o) >>= by_kind process start end pairs)
typed number place process start end pairs o kind is e k =
    let found = the_one start (fields_named (codes ":type") pairs) in
    let one = one_ok o found e in
    let f = one.0 in
    let is_kind : kind_of f ≡ kind = sym (kind_of-outline f) ∙ ap kind_of one.2 ∙ sym k in
    let is_place : place_of f ≡ place_of o = sym (place_of-outline f) ∙ ap place_of one.2 in
    fit number place process start end pairs is ∙ bind_ok found f (by_type process start end pairs) one.1
    ∙ ap (λ (x : Option OpKind). or_refuse x BadType (place_of f) >>= by_kind process start end pairs) is_kind
    ∙ ap (λ (n : ℕ). or_refuse kind BadType n >>= by_kind process start end pairs) is_place

pub bad_type : (number : ℤ) (place process start end : ℕ) (pairs : List (Form × Form)) (o : Form) → IsFit number process start end
    → Ok o ≡ result_outline (the_one start (fields_named (codes ":type") pairs)) → None ≡ kind_of o → client_operation number place start end pairs ≡ Err (byte_fault BadType (place_of o))
bad_type number place process start end pairs o is e k = typed number place process start end pairs o None is e k

pub err_mops : (fault : Fault) (r : Result (List PlacedMop) Fault) → Err fault ≡ mops_result r → r ≡ Err fault
err_mops fault r h = grind arith

pub ok_mops : (shapes : List MopShape) (r : Result (List PlacedMop) Fault) → Ok shapes ≡ mops_result r → (mops : List PlacedMop) × (r ≡ Ok mops) × (shapes ≡ map mop_shape_of mops)
ok_mops shapes r mops = grind arith

pub bad_mops : (number : ℤ) (place process start end : ℕ) (pairs : List (Form × Form)) (o : Form) (kind : OpKind) (fault : Fault) → IsFit number process start end
    → Ok o ≡ result_outline (the_one start (fields_named (codes ":type") pairs)) → Some kind ≡ kind_of o → Err fault ≡ mops_result (mops_of kind start pairs)
    → client_operation number place start end pairs ≡ Err fault
bad_mops number place process start end pairs o kind fault is e k m =
    typed number place process start end pairs o (Some kind) is e k
    ∙ bind_err (mops_of kind start pairs) fault (λ mops. Ok (operation (record { kind = kind; process = process; mops = mops; start = start; end = end }))) (err_mops fault (mops_of kind start pairs) m)

pub is_operation : (number : ℤ) (place process start end : ℕ) (pairs : List (Form × Form)) (o : Form) (kind : OpKind) (shape : OpShape) → IsFit number process start end
    → Ok o ≡ result_outline (the_one start (fields_named (codes ":type") pairs)) → Some kind ≡ kind_of o → Ok shape.mops.items ≡ mops_result (mops_of kind start pairs)
    → shape.span ≡ record { start = start; end = end } → shape.kind ≡ kind → shape.process ≡ process → IsOperation (Ok shape) (client_operation number place start end pairs)
is_operation number place process start end pairs o kind shape is e k m is_span is_kind is_process =
    let mops = ok_mops shape.mops.items (mops_of kind start pairs) m in
    let given : client_operation number place start end pairs ≡ Ok (operation (record { kind = kind; process = process; mops = mops.0; start = start; end = end })) =
    typed number place process start end pairs o (Some kind) is e k
    ∙ bind_ok (mops_of kind start pairs) mops.0 (λ mops. Ok (operation (record { kind = kind; process = process; mops = mops; start = start; end = end }))) mops.1 in
    subst (IsOperation (Ok shape)) (sym given) (record { span = is_span; kind = is_kind; process = is_process; mops = mops.2 })

pub operation_err : (fault : Fault) (r : Result Entry Fault) → r ≡ Err fault → IsOperation (Err fault) r
operation_err fault r e = subst (IsOperation (Err fault)) (sym e) refl

-- what `?` gives for an error
pub err_is : {V : Type 0} (fault : Fault) (r : Result V Fault) → IsErrAnd r (λ e. e ≡ fault) → r ≡ Err fault
err_is fault (Ok v) h = absurd h
err_is fault (Err other) h = ap (λ e. Err e) h

pub is_short : (length start end : ℕ) → length ≡ end - start → length ≤ MAX_OPERATION_BYTES → nat_lt MAX_OPERATION_BYTES (end - start) ≡ false
is_short length start end e h = le-ltb MAX_OPERATION_BYTES (end - start) (subst (λ (n : ℕ). n ≤ MAX_OPERATION_BYTES) e h)

-- ---- a closed map

-- what is left to check once the value of `:process` is known
abbrev pub by_process : (start end : ℕ) → List (Form × Form) → Form → Result Entry Fault
by_process start end pairs process = entry_by (int_of process) (place_of process) start end pairs

all_pairs : (pairs : List (Form × Form)) (pending : Option Form) → pairs_of (members_of pairs pending) ≡ pairs
all_pairs [] None = refl
all_pairs [] (Some key) = refl
all_pairs (pair ∷ pairs) pending = ap (λ (xs : List (Form × Form)). pair ∷ xs) (all_pairs pairs pending)

is_odd : (pairs : List (Form × Form)) (pending : Option Form) → (length (members_of pairs pending) % 2 == 1) ≡ is_some pending
is_odd [] None = refl
is_odd [] (Some key) = refl
is_odd (pair ∷ pairs) pending =
    let n = length (members_of pairs pending) in
    let two : length (members_of (pair ∷ pairs) pending) % 2 ≡ n % 2 = omega arith in
    ap (λ (r : ℕ). r == 1) two ∙ is_odd pairs pending

-- where the map begins and ends
pub record IsAt (opener closer : Item) (start end : ℕ) : Type 0 where
  pub start_is : opener.start ≡ start
  pub end_is : end_of closer ≡ end

pub entry_from : (opener closer : Item) (start end : ℕ) (pairs : List (Form × Form)) (pending : Option Form) → IsAt opener closer start end
    → entry_of opener closer (members_of pairs pending) ≡ (refuse_if (is_some pending) OddMap start >>= λ _. field (codes ":process") start pairs >>= by_process start end pairs)
entry_from opener closer start end pairs pending at =
    ap (λ (odd : Bool). refuse_if odd OddMap opener.start >>= λ _. field (codes ":process") opener.start (pairs_of (members_of pairs pending)) >>= by_process opener.start (end_of closer) (pairs_of (members_of pairs pending))) (is_odd pairs pending)
    ∙ ap (λ (xs : List (Form × Form)). refuse_if (is_some pending) OddMap opener.start >>= λ _. field (codes ":process") opener.start xs >>= by_process opener.start (end_of closer) xs) (all_pairs pairs pending)
    ∙ ap (λ (n : ℕ). refuse_if (is_some pending) OddMap n >>= λ _. field (codes ":process") n pairs >>= by_process n (end_of closer) pairs) at.start_is
    ∙ ap (λ (n : ℕ). refuse_if (is_some pending) OddMap start >>= λ _. field (codes ":process") start pairs >>= by_process start n pairs) at.end_is

is_some-map : {A B C : Type 0} (f : A → C) (h : B → C) (o : Option A) (p : Option B) → option_map f o ≡ option_map h p → is_some p ≡ is_some o
is_some-map f h o p g = grind arith

-- the fields as they were gathered
pub gathered : (opener closer : Item) (start end : ℕ) (text : List ℕ) (fields : Fields) (members : List Form) (odd : Bool) (g : Gathers text fields members) → IsAt opener closer start end → is_some fields.key ≡ odd
    → entry_of opener closer members ≡ (refuse_if odd OddMap start >>= λ _. field (codes ":process") start g.pairs >>= by_process start end g.pairs)
gathered opener closer start end text fields members odd g at is =
    ap (entry_of opener closer) g.all ∙ entry_from opener closer start end g.pairs g.pending at
    ∙ ap (λ (t : Bool). refuse_if t OddMap start >>= λ _. field (codes ":process") start g.pairs >>= by_process start end g.pairs)
    (is_some-map (outline_of text) outline fields.key g.pending g.key ∙ is)

pub no_process : (opener closer : Item) (start end : ℕ) (text : List ℕ) (fields : Fields) (members : List Form) (fault : Fault) (g : Gathers text fields members) → IsAt opener closer start end → is_some fields.key ≡ false
    → Err fault ≡ result_outline (the_one start (fields_named (codes ":process") g.pairs)) → entry_of opener closer members ≡ Err fault
no_process opener closer start end text fields members fault g at is e =
    let found = the_one start (fields_named (codes ":process") g.pairs) in
    gathered opener closer start end text fields members false g at is ∙ bind_err found fault (by_process start end g.pairs) (one_err fault found e)

pub processed : (opener closer : Item) (start end : ℕ) (text : List ℕ) (fields : Fields) (members : List Form) (o : Form) (number : Option ℤ) (g : Gathers text fields members) → IsAt opener closer start end → is_some fields.key ≡ false
    → Ok o ≡ result_outline (the_one start (fields_named (codes ":process") g.pairs)) → int_of o ≡ number
    → entry_of opener closer members ≡ entry_by number (place_of o) start end g.pairs
processed opener closer start end text fields members o number g at is e n =
    let found = the_one start (fields_named (codes ":process") g.pairs) in
    let one = one_ok o found e in
    let f = one.0 in
    let is_number : int_of f ≡ number = sym (int_of-outline f) ∙ ap int_of one.2 ∙ n in
    let is_place : place_of f ≡ place_of o = sym (place_of-outline f) ∙ ap place_of one.2 in
    gathered opener closer start end text fields members false g at is ∙ bind_ok found f (by_process start end g.pairs) one.1
    ∙ ap (λ (x : Option ℤ). entry_by x (place_of f) start end g.pairs) is_number
    ∙ ap (λ (n : ℕ). entry_by number n start end g.pairs) is_place

pub entry_err : (fault : Fault) (r : Result Entry Fault) → r ≡ Err fault → IsEntry (Err fault) r
entry_err fault r e = subst (IsEntry (Err fault)) (sym e) refl

pub entry_skipped : (r : Result Entry Fault) → r ≡ Ok skipped → IsEntry (Ok None) r
entry_skipped r e = subst (IsEntry (Ok None)) (sym e) tt

entry_shape : (shape : OpShape) (r : Result Entry Fault) → IsOperation (Ok shape) r → IsEntry (Ok (Some shape)) r
entry_shape shape r h = grind arith

entry_fault : (fault : Fault) (r : Result Entry Fault) → IsOperation (Err fault) r → IsEntry (Err fault) r
entry_fault fault r h = grind arith

pub entry_is : (shape : OpShape) (r given : Result Entry Fault) → r ≡ given → IsOperation (Ok shape) given → IsEntry (Ok (Some shape)) r
entry_is shape r given e h = subst (IsEntry (Ok (Some shape))) (sym e) (entry_shape shape given h)

pub fails_with : (fault : Fault) (result : Result OpShape Fault) (given : Result Entry Fault) → IsErrAnd result (λ e. e ≡ fault) → given ≡ Err fault → IsOperation result given
fails_with fault result given h e = subst (λ (r : Result OpShape Fault). IsOperation r given) (sym (err_is fault result h)) (operation_err fault given e)

pub entry_fails_with : (fault : Fault) (result : Result (Option OpShape) Fault) (given : Result Entry Fault) → IsErrAnd result (λ e. e ≡ fault) → given ≡ Err fault → IsEntry result given
entry_fails_with fault result given h e = subst (λ (r : Result (Option OpShape) Fault). IsEntry r given) (sym (err_is fault result h)) (entry_err fault given e)

-- the same operation by another word for its place
pub placed : (result : Result OpShape Fault) (number : ℤ) (place other start end : ℕ) (pairs : List (Form × Form)) → place ≡ other → IsOperation result (client_operation number place start end pairs) → IsOperation result (client_operation number other start end pairs)
placed result number place other start end pairs e h = subst (λ (n : ℕ). IsOperation result (client_operation number n start end pairs)) e h

pub entry_fails : (fault : Fault) (result : Result (Option OpShape) Fault) (r given : Result Entry Fault) → IsErrAnd result (λ e. e ≡ fault) → r ≡ given → IsOperation (Err fault) given → IsEntry result r
entry_fails fault result r given h e is =
    subst (λ (x : Result (Option OpShape) Fault). IsEntry x r) (sym (err_is fault result h)) (subst (IsEntry (Err fault)) (sym e) (entry_fault fault given is))
