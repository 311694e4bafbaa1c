-- A transaction grows by one member, and a micro-operation goes by the outlines of its forms.
use Rattle.std.proofs.Common.{◌≡◌, ℕ, suc, ◌+◌, ◌<◌, ◌≤◌, List, [], ◌∷◌, ◌++◌, length, take, map, Bool, true, false, cond, nat_le, Option, Some, None, Result, Ok, Err, refl, sym, ◌∙◌, ap, arith, subst}
use Rattle.std.proofs.lemmas.Bool.{le-leb, lt-leb}
use Rattle.std.proofs.lemmas.List.{length-map, map_push}
use Rattle.hist_types.specs.Atoms.{Atom}
use Rattle.hist_types.specs.Entries.{PlacedMop, ◌>>=◌, refuse_if, or_refuse, is_write_of, atom_of, elements_of, read_or_write, micro_op_of, micro_ops_of}
use Rattle.hist_types.specs.Forms.{Form, plain, collection, tagged, place_of, forms_of, list_of, is_vector_or_list}
use Rattle.hist_types.specs.Tokens.{Item, byte_fault, Opener}
use Rattle.hist_types.specs.declared.limits.TheConstants.{MAX_MICRO_OPS}
use Rattle.hist_types.specs.declared.types.Fault.{Fault}
use Rattle.hist_types.specs.declared.types.Refusal.TheVariants.{TooManyMicroOps, NotTxn, BadAtom}
use Rattle.edn_ops.specs.declared.types.MopShape.{MopShape}
use Rattle.edn_ops.specs.Shapes.{mop_shape_of}
use Rattle.edn_ops.specs.Fields.{mop_result, mops_result}
use Rattle.edn_ops.specs.declared.outline.Outline.{Outline}
use Rattle.std.specs.Prelude.{IsErrAnd, Vec}
use Rattle.std.specs.Global.{Global}
use Rattle.edn_lex.specs.declared.types.Token.{Token}
use Rattle.edn_lex.specs.Kinds.{kind_of, item_of}
use Rattle.edn_lex.specs.State.{State}
use Rattle.edn_ops.specs.declared.forms.Member.{Member}
use Rattle.edn_ops.specs.Leads.{GivesMember}
use Rattle.edn_ops.specs.Collections.{AreFirstForms, ReadsMember, ReadsCollection, ReadsMop, ReadsTransaction, StopsBehind, StopsInside, PassesMember}
use Rattle.edn_ops.proofs.Collected.{IsBare, bare_member, stops_bare}
use Rattle.edn_ops.proofs.Levels.{GivesMember-shorter}
use Rattle.edn_ops.specs.Outlines.{outline, outline_of}
use Rattle.edn_ops.proofs.Closing.{bind_ok, bind_err, err_mops, ok_mops}
use Rattle.edn_ops.proofs.OutlineLemmas.{place_of-outline, atom_of-outline, is_write_of-outline}

-- ---- one member more

-- a member after `count` others
abbrev next_mop : (count : ℕ) → Form → Result PlacedMop Fault
next_mop count f = refuse_if (nat_le MAX_MICRO_OPS count) TooManyMicroOps (place_of f) >>= λ _. micro_op_of (place_of f) (elements_of f)

abbrev with_last : Result (List PlacedMop) Fault → Result PlacedMop Fault → Result (List PlacedMop) Fault
with_last mops mop = mops >>= λ ms. mop >>= λ m. Ok (ms ++ m ∷ [])

one_alone : (test : Bool) (place : ℕ) (mop : Result PlacedMop Fault) →
    (refuse_if test TooManyMicroOps place >>= λ _. mop >>= λ m. Ok (m ∷ [])) ≡ ((refuse_if test TooManyMicroOps place >>= λ _. mop) >>= λ m. Ok (m ∷ []))
one_alone test place mop = grind arith

last_behind : (test : Bool) (place : ℕ) (first last : Result PlacedMop Fault) (mops : Result (List PlacedMop) Fault) →
    (refuse_if test TooManyMicroOps place >>= λ _. first >>= λ m. with_last mops last >>= λ ms. Ok (m ∷ ms))
    ≡ with_last (refuse_if test TooManyMicroOps place >>= λ _. first >>= λ m. mops >>= λ ms. Ok (m ∷ ms)) last
last_behind test place first last mops = grind arith

micro_ops_more : (before : ℕ) (members : List Form) (f : Form) → micro_ops_of before (members ++ f ∷ []) ≡ with_last (micro_ops_of before members) (next_mop (before + length members) f)
micro_ops_more before [] f =
    let n : before + 0 ≡ before = omega arith in
    one_alone (nat_le MAX_MICRO_OPS before) (place_of f) (micro_op_of (place_of f) (elements_of f)) ∙ ap (λ (k : ℕ). next_mop k f >>= λ m. Ok (m ∷ [])) (sym n)
micro_ops_more before (g ∷ members) f =
    let n : suc before + length members ≡ before + length (g ∷ members) = omega arith in
    ap (λ (mops : Result (List PlacedMop) Fault). refuse_if (nat_le MAX_MICRO_OPS before) TooManyMicroOps (place_of g) >>= λ _. micro_op_of (place_of g) (elements_of g) >>= λ m. mops >>= λ ms. Ok (m ∷ ms)) (micro_ops_more (suc before) members f)
    ∙ last_behind (nat_le MAX_MICRO_OPS before) (place_of g) (micro_op_of (place_of g) (elements_of g)) (next_mop (suc before + length members) f) (micro_ops_of (suc before) members)
    ∙ ap (λ (k : ℕ). with_last (micro_ops_of before (g ∷ members)) (next_mop k f)) n

count_step : (test : Bool) (place : ℕ) (first : Result PlacedMop Fault) (rest : Result (List PlacedMop) Fault) (n : ℕ) (ms : List PlacedMop) →
    ((xs : List PlacedMop) → rest ≡ Ok xs → length xs ≡ n) → (refuse_if test TooManyMicroOps place >>= λ _. first >>= λ m. rest >>= λ xs. Ok (m ∷ xs)) ≡ Ok ms → length ms ≡ suc n
count_step true place first rest n ms ih e = cc
count_step false place (Err fault) rest n ms ih e = cc
count_step false place (Ok m) (Err fault) n ms ih e = cc
count_step false place (Ok m) (Ok xs) n ms ih e = let same : m ∷ xs ≡ ms = cc in sym (ap length same) ∙ ap suc (ih xs refl)

count : (before : ℕ) (members : List Form) (ms : List PlacedMop) → micro_ops_of before members ≡ Ok ms → length ms ≡ length members
count before [] ms e = let same : [] ≡ ms = cc in sym (ap length same)
count before (f ∷ members) ms e =
    count_step (nat_le MAX_MICRO_OPS before) (place_of f) (micro_op_of (place_of f) (elements_of f)) (micro_ops_of (suc before) members) (length members) ms (count (suc before) members) e

-- ---- what the code has so far

err_mop : (fault : Fault) (r : Result PlacedMop Fault) → Err fault ≡ mop_result r → r ≡ Err fault
err_mop fault r h = grind arith

ok_mop : (shape : MopShape) (r : Result PlacedMop Fault) → Ok shape ≡ mop_result r → (m : PlacedMop) × (r ≡ Ok m) × (shape ≡ mop_shape_of m)
ok_mop shape r m = grind arith

-- after a fault nothing changes
pub still_fails : (fault : Fault) (members : List Form) (f : Form) → Err fault ≡ mops_result (micro_ops_of 0 members) → Err fault ≡ mops_result (micro_ops_of 0 (members ++ f ∷ []))
still_fails fault members f e =
    let fails : micro_ops_of 0 members ≡ Err fault = err_mops fault (micro_ops_of 0 members) e in
    sym (ap mops_result (micro_ops_more 0 members f ∙ ap (λ (mops : Result (List PlacedMop) Fault). with_last mops (next_mop (0 + length members) f)) fails))

-- what so many shapes are
so_far : (shapes : List MopShape) (members : List Form) → Ok shapes ≡ mops_result (micro_ops_of 0 members) → (ms : List PlacedMop) × (micro_ops_of 0 members ≡ Ok ms) × (shapes ≡ map mop_shape_of ms) × (length shapes ≡ length members)
so_far shapes members e =
    let found = ok_mops shapes (micro_ops_of 0 members) e in
    (found.0, found.1, found.2, ap length found.2 ∙ length-map found.0 mop_shape_of ∙ count 0 members found.0 found.1)

next_is : (members : List Form) (f : Form) (ms : List PlacedMop) → micro_ops_of 0 members ≡ Ok ms → micro_ops_of 0 (members ++ f ∷ []) ≡ (next_mop (0 + length members) f >>= λ m. Ok (ms ++ m ∷ []))
next_is members f ms e = micro_ops_more 0 members f ∙ ap (λ (mops : Result (List PlacedMop) Fault). with_last mops (next_mop (0 + length members) f)) e

pub too_many : (shapes : List MopShape) (members : List Form) (f : Form) → Ok shapes ≡ mops_result (micro_ops_of 0 members) → MAX_MICRO_OPS ≤ length shapes
    → Err (byte_fault TooManyMicroOps (place_of f)) ≡ mops_result (micro_ops_of 0 (members ++ f ∷ []))
too_many shapes members f e full =
    let found = so_far shapes members e in
    let n = found.3 in
    let test : nat_le MAX_MICRO_OPS (0 + length members) ≡ true = le-leb MAX_MICRO_OPS (0 + length members) (omega arith) in
    sym (ap mops_result (next_is members f found.0 found.1
    ∙ ap (λ (t : Bool). (refuse_if t TooManyMicroOps (place_of f) >>= λ _. micro_op_of (place_of f) (elements_of f)) >>= λ m. Ok (found.0 ++ m ∷ [])) test))

room : (shapes : List MopShape) (members : List Form) (f : Form) (ms : List PlacedMop) → micro_ops_of 0 members ≡ Ok ms → length shapes ≡ length members → length shapes < MAX_MICRO_OPS
    → micro_ops_of 0 (members ++ f ∷ []) ≡ (micro_op_of (place_of f) (elements_of f) >>= λ m. Ok (ms ++ m ∷ []))
room shapes members f ms e n some =
    let test : nat_le MAX_MICRO_OPS (0 + length members) ≡ false = lt-leb MAX_MICRO_OPS (0 + length members) (omega arith) in
    next_is members f ms e ∙ ap (λ (t : Bool). (refuse_if t TooManyMicroOps (place_of f) >>= λ _. micro_op_of (place_of f) (elements_of f)) >>= λ m. Ok (ms ++ m ∷ [])) test

pub no_micro_op : (shapes : List MopShape) (members : List Form) (f : Form) (fault : Fault) → Ok shapes ≡ mops_result (micro_ops_of 0 members) → length shapes < MAX_MICRO_OPS
    → Err fault ≡ mop_result (micro_op_of (place_of f) (elements_of f)) → Err fault ≡ mops_result (micro_ops_of 0 (members ++ f ∷ []))
no_micro_op shapes members f fault e some m =
    let found = so_far shapes members e in
    sym (ap mops_result (room shapes members f found.0 found.1 found.3 some ∙ bind_err (micro_op_of (place_of f) (elements_of f)) fault (λ m. Ok (found.0 ++ m ∷ [])) (err_mop fault (micro_op_of (place_of f) (elements_of f)) m)))

pub one_micro_op : (shapes : List MopShape) (members : List Form) (f : Form) (shape : MopShape) → Ok shapes ≡ mops_result (micro_ops_of 0 members) → length shapes < MAX_MICRO_OPS
    → Ok shape ≡ mop_result (micro_op_of (place_of f) (elements_of f)) → Ok (shapes ++ shape ∷ []) ≡ mops_result (micro_ops_of 0 (members ++ f ∷ []))
one_micro_op shapes members f shape e some m =
    let found = so_far shapes members e in
    let mop = ok_mop shape (micro_op_of (place_of f) (elements_of f)) m in
    let whole : micro_ops_of 0 (members ++ f ∷ []) ≡ Ok (found.0 ++ mop.0 ∷ []) =
    room shapes members f found.0 found.1 found.3 some ∙ bind_ok (micro_op_of (place_of f) (elements_of f)) mop.0 (λ m. Ok (found.0 ++ m ∷ [])) mop.1 in
    ap (λ (xs : List MopShape). Ok (xs ++ shape ∷ [])) found.2 ∙ ap (λ (x : MopShape). Ok (map mop_shape_of found.0 ++ x ∷ [])) mop.2
    ∙ ap (λ (xs : List MopShape). Ok xs) (sym (map_push mop_shape_of found.0 mop.0)) ∙ sym (ap mops_result whole)

-- ---- outlines

written : (k : Item × Atom) (value : Form) → read_or_write true k (outline value) ≡ read_or_write true k value
written k value = grind arith

returned : (k : Item × Atom) (value : Form) → read_or_write false k (outline value) ≡ read_or_write false k value
returned k value = grind arith

by_value : (write : Option Bool) (key : Option (Item × Atom)) (offset place : ℕ) (value : Form) →
    (or_refuse write NotTxn offset >>= λ w. or_refuse key BadAtom place >>= λ k. read_or_write w k (outline value)) ≡ (or_refuse write NotTxn offset >>= λ w. or_refuse key BadAtom place >>= λ k. read_or_write w k value)
by_value None key offset place value = refl
by_value (Some w) None offset place value = refl
by_value (Some true) (Some k) offset place value = written k value
by_value (Some false) (Some k) offset place value = returned k value

-- a micro-operation goes by the outlines of the first four forms
pub micro_op_of-outlines : (offset : ℕ) (forms : List Form) → micro_op_of offset (Some (map outline (take 4 forms))) ≡ micro_op_of offset (Some forms)
micro_op_of-outlines offset [] = refl
micro_op_of-outlines offset (a ∷ []) = refl
micro_op_of-outlines offset (a ∷ b ∷ []) = refl
micro_op_of-outlines offset (name ∷ key ∷ value ∷ []) =
    ap (λ (x : Option Bool). or_refuse x NotTxn offset >>= λ w. or_refuse (atom_of (outline key)) BadAtom (place_of (outline key)) >>= λ k. read_or_write w k (outline value)) (is_write_of-outline name)
    ∙ ap (λ (x : Option (Item × Atom)). or_refuse (is_write_of name) NotTxn offset >>= λ w. or_refuse x BadAtom (place_of (outline key)) >>= λ k. read_or_write w k (outline value)) (atom_of-outline key)
    ∙ ap (λ (n : ℕ). or_refuse (is_write_of name) NotTxn offset >>= λ w. or_refuse (atom_of key) BadAtom n >>= λ k. read_or_write w k (outline value)) (place_of-outline key)
    ∙ by_value (is_write_of name) (atom_of key) offset (place_of key) value
micro_op_of-outlines offset (a ∷ b ∷ c ∷ d ∷ more) = refl

pub list_of-forms_of : (fs : List Form) → list_of (forms_of fs) ≡ fs
list_of-forms_of [] = refl
list_of-forms_of (f ∷ fs) = ap (λ (xs : List Form). f ∷ xs) (list_of-forms_of fs)

none_if : (test : Bool) (fs gs : List Form) → cond test (Some fs) None ≡ None → cond test (Some gs) None ≡ None
none_if test fs gs h = grind arith

some_if : (test : Bool) (fs : List Form) → test ≡ true → cond test (Some fs) None ≡ Some fs
some_if test fs h = grind arith

-- what is no vector or list by its outline is none
pub no_elements : (f : Form) → elements_of (outline f) ≡ None → elements_of f ≡ None
no_elements (plain t) e = refl
no_elements (collection opener closer members) e = none_if (is_vector_or_list opener) [] (list_of members) e
no_elements (tagged tag f) e = refl

pub elements : (opener closer : Item) (members : List Form) → is_vector_or_list opener ≡ true → elements_of (collection opener closer (forms_of members)) ≡ Some members
elements opener closer members is = some_if (is_vector_or_list opener) (list_of (forms_of members)) is ∙ ap (λ (fs : List Form). Some fs) (list_of-forms_of members)

-- a micro-operation by the outlines that the code has
pub micro_op_is : (text : List ℕ) (mop : Result MopShape Fault) (start : ℕ) (os : List Outline) (opener closer : Item) (members : List Form) → mop ≡ mop_result (micro_op_of start (Some (map (outline_of text) os)))
    → AreFirstForms text os members → is_vector_or_list opener ≡ true → start ≡ opener.start
    → mop ≡ mop_result (micro_op_of (place_of (collection opener closer (forms_of members))) (elements_of (collection opener closer (forms_of members))))
micro_op_is text mop start os opener closer members is first sequence at =
    is ∙ ap (λ (fs : List Form). mop_result (micro_op_of start (Some fs))) (sym first.outlines_are)
    ∙ ap mop_result (micro_op_of-outlines start members ∙ ap (λ (n : ℕ). micro_op_of n (Some members)) at ∙ ap (micro_op_of opener.start) (sym (elements opener closer members sequence)))

-- ---- calls

pub seq_read_at : (s t u : State) (m : Member) (closer : Item) (members : List Form) (mop : Result MopShape Fault) (os : List Outline) → GivesMember s m t → m.tag ≡ None → kind_of m.token.kind ≡ Opener
    → ReadsCollection t (item_of t.text m.token) members closer u → AreFirstForms s.text os members → is_vector_or_list (item_of s.text m.token) ≡ true
    → mop ≡ mop_result (micro_op_of m.token.start (Some (map (outline_of s.text) os))) → ReadsMop s (Ok (m.token.start, mop)) u
seq_read_at s t u m closer members mop os h tag kind r first sequence is = (
  collection (item_of s.text m.token) closer (forms_of members),
  bare_member s t u m closer members h tag kind r,
  refl,
  micro_op_is s.text mop m.token.start os (item_of s.text m.token) closer members is first sequence refl,
)

-- a member that is a vector or a list
pub seq_read : (s t u : State) (text : List ℕ) (m : Member) (opener : Token) (closer : Item) (members : List Form) (mop : Result MopShape Fault) (slice os : List Outline) → GivesMember s m t → IsBare m opener → text ≡ t.text
    → ReadsCollection t (item_of t.text opener) members closer u → AreFirstForms t.text os members → is_vector_or_list (item_of text opener) ≡ true
    → mop ≡ mop_result (micro_op_of opener.start (Some (map (outline_of text) slice))) → slice ≡ os → ReadsMop s (Ok (opener.start, mop)) u
seq_read s t u text m opener closer members mop slice os h b same r first sequence is is_slice =
    let shorter = GivesMember-shorter s t m h in
    let P : Token → Type 0 = λ token. ReadsCollection t (item_of t.text token) members closer u → is_vector_or_list (item_of text token) ≡ true
    → mop ≡ mop_result (micro_op_of token.start (Some (map (outline_of text) slice))) → ReadsMop s (Ok (token.start, mop)) u in
    let here : P m.token = λ r sequence is.
    seq_read_at s t u m closer members mop os h b.tag b.kind r (subst (λ (xs : List ℕ). AreFirstForms xs os members) shorter.2 first)
    (subst (λ (xs : List ℕ). is_vector_or_list (item_of xs m.token) ≡ true) (same ∙ shorter.2) sequence)
    (subst (λ (xs : List ℕ). mop ≡ mop_result (micro_op_of m.token.start (Some (map (outline_of xs) os)))) (same ∙ shorter.2)
    (subst (λ (xs : List Outline). mop ≡ mop_result (micro_op_of m.token.start (Some (map (outline_of text) xs)))) is_slice is)) in
    subst P b.token here r sequence is

-- reading stops within it
pub seq_stops : (s t : State) (m : Member) (opener : Token) (fault : Fault) → GivesMember s m t → IsBare m opener → StopsBehind t (item_of t.text opener) fault → StopsInside s fault
seq_stops s t m opener fault h b stops = stops_bare s t m fault h b.kind (subst (λ (token : Token). StopsBehind t (item_of t.text token) fault) (sym b.token) stops)

-- any other member
pub none_read : (s u : State) (text : List ℕ) (start : ℕ) (fault : Fault) (o other : Outline) → PassesMember s (Ok o) u → o ≡ other → text ≡ s.text → elements_of (outline_of text other) ≡ None → start ≡ place_of (outline_of s.text o)
    → fault ≡ byte_fault NotTxn start → ReadsMop s (Ok (start, Err fault)) u
none_read s u text start fault o other p same is_text none at is =
    let form = p.0 in
    let outlined : outline form ≡ outline_of s.text o = p.2.outline_is in
    let empty : elements_of form ≡ None =
    no_elements form (ap elements_of (outlined ∙ ap (outline_of s.text) same ∙ ap (λ (xs : List ℕ). outline_of xs other) (sym is_text)) ∙ none) in
    let here : start ≡ place_of form = at ∙ ap place_of (sym outlined) ∙ place_of-outline form in (
      form,
      p.1,
      here,
      ap (λ (f : Fault). Err f) (is ∙ ap (byte_fault NotTxn) here) ∙ sym (ap (λ (x : Option (List Form)). mop_result (micro_op_of (place_of form) x)) empty),
    )

pub mop_fails : (s u : State) (fault : Fault) (result : Result (ℕ × Result MopShape Fault) Fault) → IsErrAnd result (λ e. e ≡ fault) → StopsInside s fault → ReadsMop s result u
mop_fails s u fault (Ok found) h stops = absurd h
mop_fails s u fault (Err other) h stops = subst (StopsInside s) (sym h) stops

pub transaction_fails :
    (s u : State) (opener : Item) (fault : Fault) (result : Result (Result (Vec MopShape Global) Fault) Fault) → IsErrAnd result (λ e. e ≡ fault) →
    StopsBehind s opener fault → ReadsTransaction s opener result u
transaction_fails s u opener fault (Ok found) h stops = absurd h
transaction_fails s u opener fault (Err other) h stops = λ memory. subst (StopsBehind s opener) (sym h) stops

-- a member that was read
pub record ReadMop (s : State) (start : ℕ) (mop : Result MopShape Fault) (u : State) : Type 0 where
  pub form : Form
  pub one : ReadsMember s form u
  pub place : start ≡ place_of form
  pub mop_is : mop ≡ mop_result (micro_op_of (place_of form) (elements_of form))

pub read_mop : (s u : State) (start : ℕ) (mop : Result MopShape Fault) → ReadsMop s (Ok (start, mop)) u → ReadMop s start mop u
read_mop s u start mop h = record { form = h.0; one = h.1; place = h.2; mop_is = h.3 }
