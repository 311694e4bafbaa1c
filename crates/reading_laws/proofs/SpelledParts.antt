-- The parts of an operation that a text reads as are spelled by tokens of the text, within the limits.
use Rattle.std.proofs.Common.{◌≡◌, inl, inr, ℕ, suc, ◌+◌, ◌-◌, ◌≤◌, ◌<◌, ◌%◌, List, [], ◌∷◌, ◌++◌, length, take, drop, Bool, true, false, ◌&&◌, ◌==◌, if◌then◌else◌, Option, Some, None, option_map, Result, Ok, Err, filter, refl, sym, ◌∙◌, ap, subst, arith, length-drop, drop-drop, codes}
use Rattle.std.specs.Prelude.{ℤ, pos, negsuc, nat_le, nat_lt}
use Rattle.std.specs.List.{AllByRecursion, All, Contains}
use Rattle.std.proofs.lemmas.Bool.{leb-true, leb-false, ltb-false}
use Rattle.std.proofs.lemmas.List.Elements.{All-from_recursion}
use Rattle.std.proofs.lemmas.Option.{none-some, same_Some}
use Rattle.hist_types.specs.Atoms.{Atom, Value}
use Rattle.hist_types.specs.AtomTokens.{atom_of_token, is_nil_kind, process_of}
use Rattle.hist_types.specs.Entries.{PlacedMop, PlacedOperation, Entry, operation, skipped, atom_of, is_nil, value_of, is_named, int_of, elements_of, ◌>>=◌, refuse_if, or_refuse, pairs_of, the_one, field, kind_of, is_write_of, placed_write, placed_read, read_or_write, micro_op_of, micro_ops_of, transaction_of, mops_of, entry_by, end_of, entry_of}
use Rattle.hist_types.specs.Forms.{Form, plain, collection, tagged, Forms, no_form, form, forms_of, list_of, place_of, OpenCollection, Open, is_map, is_vector_or_list, is_drop, settled, with_member, with_form, with_mark, with_opener, form_of}
use Rattle.reading_laws.specs.Placed.{IsTokenIn, Spells, SpellsValue, SpellsParts, IsMopIn, FitsKind, KeepsLimits, IsTextOf}
use Rattle.hist_types.specs.Reading.{Reading, is_operation_place, in_operation_place, may_open, Step, only_opens, close, step_by, step, and_then_read, reading_from, nothing_open, Reads}
use Rattle.hist_types.specs.Tokens.{Item, ItemKind, Nil, Opener, Closer, Drop, Tag, open_after, is_token, tokens_of, BeginsWith, IsCut, HasTokens}
use Rattle.hist_types.specs.declared.limits.TheConstants.{MAX_PROCESS, MAX_MICRO_OPS, MAX_OPERATION_BYTES}
use Rattle.hist_types.specs.declared.types.Fault.{Fault}
use Rattle.hist_types.specs.declared.types.OpKind.{OpKind}
use Rattle.hist_types.specs.declared.types.OpKind.TheVariants as kinds
use Rattle.hist_types.specs.declared.types.Refusal.TheVariants.{OddMap, BadType, BadProcess, NotTxn, BadAtom, NilWritten, TooLong, TooManyMicroOps}
use Rattle.reading_laws.proofs.Checks.{no_ok, ok_then, ok_is, or_some, not_refused}
use Rattle.reading_laws.proofs.MovedReading.{closed, went_on_if, went_on_unless, same_step, no_step}
use Rattle.reading_laws.proofs.MapAlone.{found_in_text}
use Rattle.hist_types.proofs.Members.{In, in_from_Contains}
use Rattle.reading_laws.proofs.PartCuts.{BeginsWith-len}

-- ---- the limits

process_of-le : (number : ℤ) (process : ℕ) → process_of number ≡ Some process → process ≤ MAX_PROCESS
process_of-le (pos n) process e = fits (nat_le n MAX_PROCESS) refl e
  where
    fits :
        (test : Bool)
        → nat_le n MAX_PROCESS ≡ test
        → (if test then Some n else None) ≡ Some process
        → process ≤ MAX_PROCESS
    fits true is same = subst (λ p. p ≤ MAX_PROCESS) (same_Some n process same) (leb-true n MAX_PROCESS is)
    fits false is same = absurd (none-some process same)
process_of-le (negsuc n) process e = absurd (none-some process e)

micro_ops_of-few :
    (fs : List Form) (before : ℕ) (mops : List PlacedMop)
    → before ≤ MAX_MICRO_OPS
    → micro_ops_of before fs ≡ Ok mops
    → before + length mops ≤ MAX_MICRO_OPS
micro_ops_of-few [] before mops le e = ok_is (λ ms. before + length ms ≤ MAX_MICRO_OPS) [] mops (omega arith) e
micro_ops_of-few (f ∷ fs) before mops le e =
    let P : List PlacedMop → Type 0 = λ ms. before + length ms ≤ MAX_MICRO_OPS in
    ok_then P (refuse_if (nat_le MAX_MICRO_OPS before) TooManyMicroOps (place_of f)) _ (λ u room.
    ok_then P (micro_op_of (place_of f) (elements_of f)) _ (λ mop _.
    ok_then P (micro_ops_of (suc before) fs) _ (λ rest is ms.
    let below : before < MAX_MICRO_OPS = leb-false MAX_MICRO_OPS before (not_refused _ _ _ u room) in
    let few : suc before + length rest ≤ MAX_MICRO_OPS = micro_ops_of-few fs (suc before) rest (omega arith) is in
    ok_is P (mop ∷ rest) ms (omega arith)))) mops e

-- the micro-operations of an operation of this kind: few, and none where it ended in another way than ok
abbrev AreFew : OpKind → List PlacedMop → Type 0
AreFew kind mops = (length mops ≤ MAX_MICRO_OPS) × FitsKind kind mops

transaction_of-few : (f : Form) (mops : List PlacedMop) → transaction_of f ≡ Ok mops → length mops ≤ MAX_MICRO_OPS
transaction_of-few f mops e =
    ok_then (λ ms. length ms ≤ MAX_MICRO_OPS) (or_refuse (elements_of f) NotTxn (place_of f)) _
    (λ fs _ ms is. let few : 0 + length ms ≤ MAX_MICRO_OPS = micro_ops_of-few fs 0 ms
    (omega arith) is in omega arith) mops e

mops_of-few :
    (kind : OpKind) (n : ℕ) (ps : List (Form × Form)) (mops : List PlacedMop)
    → mops_of kind n ps ≡ Ok mops
    → AreFew kind mops
mops_of-few kinds.Invoke n ps mops e =
    ok_then (AreFew kinds.Invoke) (field (codes ":value") n ps) _ (λ f _ ms is. (transaction_of-few f ms is, tt)) mops e
mops_of-few kinds.Ok n ps mops e =
    ok_then (AreFew kinds.Ok) (field (codes ":value") n ps) _ (λ f _ ms is. (transaction_of-few f ms is, tt)) mops e
mops_of-few kinds.Fail n ps mops e = ok_is (AreFew kinds.Fail) [] mops (omega arith, refl) e
mops_of-few kinds.Info n ps mops e = ok_is (AreFew kinds.Info) [] mops (omega arith, refl) e

-- the operation has few micro-operations, its process is in range, and its map is no longer than it may be
abbrev KeepsItsLimits : Entry → Type 0
KeepsItsLimits skipped = Unit {0}
KeepsItsLimits (operation o) =
    ((o.end - o.start) ≤ MAX_OPERATION_BYTES) × (o.process ≤ MAX_PROCESS) × (length o.mops ≤ MAX_MICRO_OPS)
    × FitsKind o.kind o.mops

entry_by-limits :
    (number : Option ℤ) (place start end : ℕ) (ps : List (Form × Form)) (entry : Entry)
    → entry_by number place start end ps ≡ Ok entry
    → KeepsItsLimits entry
entry_by-limits None place start end ps entry e = ok_is KeepsItsLimits skipped entry tt e
entry_by-limits (Some number) place start end ps entry e =
    let P = KeepsItsLimits in
    ok_then P (or_refuse (process_of number) BadProcess place) _ (λ process is_process.
    ok_then P (refuse_if (nat_lt MAX_OPERATION_BYTES (end - start)) TooLong start) _ (λ u short.
    ok_then P (field (codes ":type") start ps) _ (λ type _.
    ok_then P (or_refuse (kind_of type) BadType (place_of type)) _ (λ kind _.
    ok_then P (mops_of kind start ps) _ (λ mops is_mops y.
    let few = mops_of-few kind start ps mops is_mops in
    let fits : (end - start) ≤ MAX_OPERATION_BYTES =
    ltb-false MAX_OPERATION_BYTES (end - start) (not_refused _ _ _ u short) in
    let in_range : process ≤ MAX_PROCESS = process_of-le number process (or_some _ _ _ process is_process) in
    ok_is P (operation (record { kind = kind; process = process; mops = mops; start = start; end = end })) y
    (fits, in_range, few.0, few.1)))))) entry e

pub entry_of-limits :
    (opener closer : Item) (fs : List Form) (entry : Entry)
    → entry_of opener closer fs ≡ Ok entry
    → KeepsItsLimits entry
entry_of-limits opener closer fs entry e =
    ok_then KeepsItsLimits (refuse_if (length fs % 2 == 1) OddMap opener.start) _ (λ u _.
    ok_then KeepsItsLimits (field (codes ":process") opener.start (pairs_of fs)) _ (λ process _.
    entry_by-limits (int_of process) (place_of process) opener.start (end_of closer) (pairs_of fs))) entry e

-- ---- forms of such tokens

module _ (P : Item → Type 0) where
  abbrev mutual
    pub AllIn : Form → Type 0
    AllIn (plain t) = P t
    AllIn (collection opener closer members) = AllInEach members
    AllIn (tagged tag f) = AllIn f

    pub AllInEach : Forms → Type 0
    AllInEach no_form = Unit {0}
    AllInEach (form f fs) = AllIn f × AllInEach fs

  list_of-all : (fs : Forms) → AllInEach fs → AllByRecursion AllIn (list_of fs)
  list_of-all no_form all = tt
  list_of-all (form f fs) all = (all.0, list_of-all fs all.1)

  forms_of-all : (fs : List Form) → AllByRecursion AllIn fs → AllInEach (forms_of fs)
  forms_of-all [] all = tt
  forms_of-all (f ∷ fs) all = (all.0, forms_of-all fs all.1)

  -- ---- what is open

  abbrev AllWithin : List OpenCollection → Type 0
  AllWithin collections = AllByRecursion (λ (c : OpenCollection). AllByRecursion AllIn c.members) collections

  abbrev IfForm : Option Form → Type 0
  IfForm None = Unit {0}
  IfForm (Some f) = AllIn f

  unless_dropped : (drops : Bool) (o : Option Form) → IfForm o → IfForm (if drops then None else o)
  unless_dropped true o all = tt
  unless_dropped false o all = all

  settled-all : (marks : List Item) (f : Form) → AllIn f → IfForm (settled marks f)
  settled-all [] f all = all
  settled-all (mark ∷ marks) f all =
      unless_dropped (is_drop mark) (settled marks (tagged mark f)) (settled-all marks (tagged mark f) all)

  with_last : (fs : List Form) (f : Form) → AllByRecursion AllIn fs → AllIn f → AllByRecursion AllIn (fs ++ (f ∷ []))
  with_last [] f all last = (last, tt)
  with_last (g ∷ fs) f all last = (all.0, with_last fs f all.1 last)

  with_member-all :
      (o : Option Form) (fs : List Form)
      → IfForm o
      → AllByRecursion AllIn fs
      → AllByRecursion AllIn (with_member o fs)
  with_member-all None fs one all = all
  with_member-all (Some f) fs one all = with_last fs f all one

  with_form-all :
      (f : Form) (marks : List Item) (collections : List OpenCollection)
      → AllIn f
      → AllWithin collections
      → AllWithin (with_form f marks collections).collections
  with_form-all f marks [] one all = tt
  with_form-all f marks (c ∷ outer) one all =
      (with_member-all (settled c.marks f) c.members (settled-all c.marks f one) all.0, all.1)

  with_mark-all :
      (t : Item) (marks : List Item) (collections : List OpenCollection)
      → AllWithin collections
      → AllWithin (with_mark t marks collections).collections
  with_mark-all t marks [] all = tt
  with_mark-all t marks (c ∷ outer) all = (all.0, all.1)

  -- ---- what forms spell

  of_token :
      (t : Item) (p : Item × Atom) (o : Option Atom)
      → atom_of_token t.kind t.bytes ≡ o
      → P t
      → option_map (λ atom. (t, atom)) o ≡ Some p
      → P p.0 × Spells p.0 p.1
  of_token t p None is one e = absurd (none-some p e)
  of_token t p (Some atom) is one e =
      subst (λ (q : Item × Atom). P q.0 × Spells q.0 q.1) (same_Some (t, atom) p e) (one, is)

  atom_of-spells : (f : Form) (p : Item × Atom) → AllIn f → atom_of f ≡ Some p → P p.0 × Spells p.0 p.1
  atom_of-spells (plain t) p all e = of_token t p (atom_of_token t.kind t.bytes) refl all e
  atom_of-spells (collection opener closer members) p all e = absurd (none-some p e)
  atom_of-spells (tagged tag f) p all e = absurd (none-some p e)

  is_nil_kind-nil : (kind : ItemKind) → is_nil_kind kind ≡ true → kind ≡ Nil
  is_nil_kind-nil Nil e = refl
  is_nil_kind-nil kind e = absurd (let no : false ≡ true = e in cc)

  of_value_token :
      (t : Item) (p : Item × Value) (nil : Bool) (o : Option Atom)
      → is_nil_kind t.kind ≡ nil
      → atom_of_token t.kind t.bytes ≡ o
      → P t
      → (if nil then Some (t, None) else option_map (λ atom. (t, Some atom)) o) ≡ Some p
      → P p.0 × SpellsValue p.0 p.1
  of_value_token t p true o nil is one e =
      subst (λ (q : Item × Value). P q.0 × SpellsValue q.0 q.1) (same_Some (t, None) p e)
      (one, is_nil_kind-nil t.kind nil)
  of_value_token t p false None nil is one e = absurd (none-some p e)
  of_value_token t p false (Some atom) nil is one e =
      subst (λ (q : Item × Value). P q.0 × SpellsValue q.0 q.1) (same_Some (t, Some atom) p e) (one, is)

  value_of-spells : (f : Form) (p : Item × Value) → AllIn f → value_of f ≡ Some p → P p.0 × SpellsValue p.0 p.1
  value_of-spells (plain t) p all e =
      of_value_token t p (is_nil_kind t.kind) (atom_of_token t.kind t.bytes) refl refl all e
  value_of-spells (collection opener closer members) p all e = absurd (none-some p e)
  value_of-spells (tagged tag f) p all e = absurd (none-some p e)

  if_elements :
      (b : Bool) (members : Forms) (fs : List Form)
      → AllInEach members
      → (if b then Some (list_of members) else None) ≡ Some fs
      → AllByRecursion AllIn fs
  if_elements true members fs all e =
      subst (AllByRecursion AllIn) (same_Some (list_of members) fs e) (list_of-all members all)
  if_elements false members fs all e = absurd (none-some fs e)

  elements_of-all : (f : Form) (fs : List Form) → AllIn f → elements_of f ≡ Some fs → AllByRecursion AllIn fs
  elements_of-all (plain t) fs all e = absurd (none-some fs e)
  elements_of-all (collection opener closer members) fs all e = if_elements (is_vector_or_list opener) members fs all e
  elements_of-all (tagged tag f) fs all e = absurd (none-some fs e)

  -- ---- micro-operations

  -- tokens of which P holds spell the micro-operation
  abbrev pub IsSpelled : PlacedMop → Type 0
  IsSpelled m = P m.key × P m.value × SpellsParts m.key m.value m.mop

  read_or_write-spelled :
      (is_write : Bool) (key : Item × Atom) (f : Form) (m : PlacedMop)
      → P key.0
      → Spells key.0 key.1
      → AllIn f
      → read_or_write is_write key f ≡ Ok m
      → IsSpelled m
  read_or_write-spelled true key f m one spells all e =
      ok_then IsSpelled (refuse_if (is_nil f) NilWritten (place_of f)) _ (λ u _.
      ok_then IsSpelled (or_refuse (atom_of f) BadAtom (place_of f)) _ (λ value is y.
      let found = atom_of-spells f value all (or_some _ _ _ value is) in
      ok_is IsSpelled (placed_write key value) y (one, found.0, (spells, found.1)))) m e
  read_or_write-spelled false key f m one spells all e =
      ok_then IsSpelled (or_refuse (value_of f) BadAtom (place_of f)) _ (λ value is y.
      let found = value_of-spells f value all (or_some _ _ _ value is) in
      ok_is IsSpelled (placed_read key value) y (one, found.0, (spells, found.1))) m e

  micro_op_of-spelled :
      (n : ℕ) (o : Option (List Form)) (m : PlacedMop)
      → ((fs : List Form) → o ≡ Some fs → AllByRecursion AllIn fs)
      → micro_op_of n o ≡ Ok m
      → IsSpelled m
  micro_op_of-spelled n None m all e = absurd (no_ok _ m e)
  micro_op_of-spelled n (Some []) m all e = absurd (no_ok _ m e)
  micro_op_of-spelled n (Some (a ∷ [])) m all e = absurd (no_ok _ m e)
  micro_op_of-spelled n (Some (a ∷ b ∷ [])) m all e = absurd (no_ok _ m e)
  micro_op_of-spelled n (Some (a ∷ b ∷ c ∷ [])) m all e =
      let each = all (a ∷ b ∷ c ∷ []) refl in
      ok_then IsSpelled (or_refuse (is_write_of a) NotTxn n) _ (λ is_write _.
      ok_then IsSpelled (or_refuse (atom_of b) BadAtom (place_of b)) _ (λ key is.
      let found = atom_of-spells b key each.1.0 (or_some _ _ _ key is) in
      λ y. read_or_write-spelled is_write key c y found.0 found.1 each.1.1.0)) m e
  micro_op_of-spelled n (Some (a ∷ b ∷ c ∷ d ∷ more)) m all e = absurd (no_ok _ m e)

  micro_ops_of-spelled :
      (fs : List Form) (before : ℕ) (mops : List PlacedMop)
      → AllByRecursion AllIn fs
      → micro_ops_of before fs ≡ Ok mops
      → AllByRecursion IsSpelled mops
  micro_ops_of-spelled [] before mops all e = ok_is (AllByRecursion IsSpelled) [] mops tt e
  micro_ops_of-spelled (f ∷ fs) before mops all e =
      let Q : List PlacedMop → Type 0 = AllByRecursion IsSpelled in
      ok_then Q (refuse_if (nat_le MAX_MICRO_OPS before) TooManyMicroOps (place_of f)) _ (λ u _.
      ok_then Q (micro_op_of (place_of f) (elements_of f)) _ (λ mop is.
      ok_then Q (micro_ops_of (suc before) fs) _ (λ rest are ms.
      ok_is Q (mop ∷ rest) ms (
        micro_op_of-spelled (place_of f) (elements_of f) mop
            (λ gs. elements_of-all f gs all.0) is,
        micro_ops_of-spelled fs (suc before) rest all.1 are,
      )))) mops e

  -- ---- fields

  abbrev PairAll : Form × Form → Type 0
  PairAll p = AllIn p.0 × AllIn p.1

  pairs_of-all : (fs : List Form) → AllByRecursion AllIn fs → AllByRecursion PairAll (pairs_of fs)
  pairs_of-all [] all = tt
  pairs_of-all (f ∷ []) all = tt
  pairs_of-all (f ∷ g ∷ fs) all = ((all.0, all.1.0), pairs_of-all fs all.1.1)

  if_kept :
      (b : Bool) (p : Form × Form) (ps : List (Form × Form))
      → PairAll p
      → AllByRecursion PairAll ps
      → AllByRecursion PairAll (if b then p ∷ ps else ps)
  if_kept true p ps one all = (one, all)
  if_kept false p ps one all = all

  named-all :
      (name : List ℕ) (ps : List (Form × Form))
      → AllByRecursion PairAll ps
      → AllByRecursion PairAll (filter (λ pair. is_named name pair.0) ps)
  named-all name [] all = tt
  named-all name (p ∷ ps) all = if_kept (is_named name p.0) p _ all.0 (named-all name ps all.1)

  the_one-all : (n : ℕ) (ps : List (Form × Form)) (f : Form) → AllByRecursion PairAll ps → the_one n ps ≡ Ok f → AllIn f
  the_one-all n [] f all e = absurd (no_ok _ f e)
  the_one-all n (p ∷ []) f all e = ok_is AllIn p.1 f all.0.1 e
  the_one-all n (p ∷ q ∷ ps) f all e = absurd (no_ok _ f e)

  value-spelled :
      (n : ℕ) (ps : List (Form × Form)) (mops : List PlacedMop)
      → AllByRecursion PairAll ps
      → (field (codes ":value") n ps >>= transaction_of) ≡ Ok mops
      → AllByRecursion IsSpelled mops
  value-spelled n ps mops all e =
      let Q : List PlacedMop → Type 0 = AllByRecursion IsSpelled in
      ok_then Q (field (codes ":value") n ps) _ (λ f is.
      ok_then Q (or_refuse (elements_of f) NotTxn (place_of f)) _ (λ fs are ms.
      let one = the_one-all n (filter (λ pair. is_named (codes ":value") pair.0) ps) f
      (named-all (codes ":value") ps all) is in
      micro_ops_of-spelled fs 0 ms (elements_of-all f fs one (or_some _ _ _ fs are)))) mops e

  mops_of-spelled :
      (kind : OpKind) (n : ℕ) (ps : List (Form × Form)) (mops : List PlacedMop)
      → AllByRecursion PairAll ps
      → mops_of kind n ps ≡ Ok mops
      → AllByRecursion IsSpelled mops
  mops_of-spelled kinds.Invoke n ps mops all e = value-spelled n ps mops all e
  mops_of-spelled kinds.Ok n ps mops all e = value-spelled n ps mops all e
  mops_of-spelled kinds.Fail n ps mops all e = ok_is (AllByRecursion IsSpelled) [] mops tt e
  mops_of-spelled kinds.Info n ps mops all e = ok_is (AllByRecursion IsSpelled) [] mops tt e

  -- ---- entries

  abbrev pub IsSpelledEntry : Entry → Type 0
  IsSpelledEntry skipped = Unit {0}
  IsSpelledEntry (operation o) = AllByRecursion IsSpelled o.mops

  entry_by-spelled :
      (number : Option ℤ) (place start end : ℕ) (ps : List (Form × Form)) (entry : Entry)
      → AllByRecursion PairAll ps
      → entry_by number place start end ps ≡ Ok entry
      → IsSpelledEntry entry
  entry_by-spelled None place start end ps entry all e = ok_is IsSpelledEntry skipped entry tt e
  entry_by-spelled (Some number) place start end ps entry all e =
      ok_then IsSpelledEntry (or_refuse (process_of number) BadProcess place) _ (λ process _.
      ok_then IsSpelledEntry (refuse_if (nat_lt MAX_OPERATION_BYTES (end - start)) TooLong start) _ (λ u _.
      ok_then IsSpelledEntry (field (codes ":type") start ps) _ (λ type _.
      ok_then IsSpelledEntry (or_refuse (kind_of type) BadType (place_of type)) _ (λ kind _.
      ok_then IsSpelledEntry (mops_of kind start ps) _ (λ mops are y.
      ok_is IsSpelledEntry
      (operation (record { kind = kind; process = process; mops = mops; start = start; end = end })) y
      (mops_of-spelled kind start ps mops all are)))))) entry e

  entry_of-spelled :
      (opener closer : Item) (fs : List Form) (entry : Entry)
      → AllByRecursion AllIn fs
      → entry_of opener closer fs ≡ Ok entry
      → IsSpelledEntry entry
  entry_of-spelled opener closer fs entry all e =
      ok_then IsSpelledEntry (refuse_if (length fs % 2 == 1) OddMap opener.start) _ (λ u _.
      ok_then IsSpelledEntry (field (codes ":process") opener.start (pairs_of fs)) _ (λ process _ y.
      entry_by-spelled (int_of process) (place_of process) opener.start (end_of closer) (pairs_of fs) y
      (pairs_of-all fs all))) entry e

  abbrev AreSpelled : List Entry → Type 0
  AreSpelled = AllByRecursion IsSpelledEntry

  given-spelled :
      (test : Bool) (opener closer : Item) (fs : List Form) (es : List Entry)
      → AllByRecursion AllIn fs
      → (if test then (entry_of opener closer fs >>= λ entry. Ok (entry ∷ [])) else Ok []) ≡ Ok es
      → AreSpelled es
  given-spelled true opener closer fs es all e =
      ok_then AreSpelled (entry_of opener closer fs) _
      (λ entry is ys. ok_is AreSpelled (entry ∷ []) ys (entry_of-spelled opener closer fs entry all is, tt)) es e
  given-spelled false opener closer fs es all e = ok_is AreSpelled [] es tt e

  -- ---- steps

  abbrev StepAll : Step → Type 0
  StepAll s = AllWithin s.after.collections × AreSpelled s.entries

  closed-all :
      (marks : List Item) (collections : List OpenCollection) (t : Item) (s : Step)
      → AllWithin collections
      → close t marks collections ≡ Ok s
      → StepAll s
  closed-all marks [] t s all e = absurd (no_step _ s e)
  closed-all marks (c ∷ outer) t s all e =
      let taken = closed c t marks outer s e in (
        subst (λ (o : Open). AllWithin o.collections) (sym taken.after)
            (with_form-all (form_of c t) marks outer (forms_of-all c.members all.0) all.1),
        given-spelled (is_map c.opener && is_operation_place marks outer) c.opener t c.members s.entries all.0 taken.given,
      )

  went_on-all : (o : Open) (s : Step) → AllWithin o.collections → only_opens o ≡ s → StepAll s
  went_on-all o s all same = subst StepAll same (all, tt)

  step-all :
      (kind : ItemKind) (o : Open) (t : Item) (s : Step)
      → P t
      → AllWithin o.collections
      → step_by kind o t ≡ Ok s
      → StepAll s
  step-all Opener o t s one all e =
      went_on-all (with_opener t o) s (tt, all) (went_on_if (may_open o t) (with_opener t o) _ s e)
  step-all Closer o t s one all e = closed-all o.marks o.collections t s all e
  step-all Tag o t s one all e =
      went_on-all (with_mark t o.marks o.collections) s (with_mark-all t o.marks o.collections all) (same_step _ s e)
  step-all Drop o t s one all e =
      went_on-all (with_mark t o.marks o.collections) s (with_mark-all t o.marks o.collections all) (same_step _ s e)
  step-all kind o t s one all e =
      went_on-all (with_form (plain t) o.marks o.collections) s (with_form-all (plain t) o.marks o.collections one all)
      (went_on_unless (in_operation_place o) (with_form (plain t) o.marks o.collections) t.start s e)

  all_both : (xs ys : List Entry) → AreSpelled xs → AreSpelled ys → AreSpelled (xs ++ ys)
  all_both [] ys front back = back
  all_both (x ∷ xs) ys front back = (front.0, all_both xs ys front.1 back)

  read-spelled :
      (r : Result Step Fault) (rest : Open → Reading)
      → ((s : Step) → r ≡ Ok s → StepAll s)
      → ((o : Open) → AllWithin o.collections → AreSpelled (rest o).entries)
      → AreSpelled (and_then_read r rest).entries
  read-spelled (Ok s) rest first later =
      let both = first s refl in all_both s.entries (rest s.after).entries both.1 (later s.after both.0)
  read-spelled (Err f) rest first later = tt

  pub reading_from-spelled :
      (ts : List Item) (o : Open) (ending : Option Fault)
      → AllByRecursion P ts
      → AllWithin o.collections
      → AreSpelled (reading_from o ts ending).entries
  reading_from-spelled [] o ending all within = tt
  reading_from-spelled (t ∷ ts) o ending all within =
      read-spelled (step o t) (λ after. reading_from after ts ending) (λ s. step-all t.kind o t s all.0 within)
      (λ after. reading_from-spelled ts after ending all.1)

-- ---- tokens of a text

pub BeginsWith-bytes :
    (text : List ℕ) (kind : ItemKind) (bytes : List ℕ)
    → BeginsWith text kind bytes
    → bytes ≡ take (length bytes) text
BeginsWith-bytes [] kind bytes begins = absurd begins
BeginsWith-bytes (b ∷ rest) kind bytes begins = begins.1

item_in :
    (text : List ℕ) (offset : ℕ) (t : Item)
    → BeginsWith (drop offset text) t.kind t.bytes
    → t.start ≡ offset
    → IsTokenIn text t
item_in text offset t begins start =
    let len = BeginsWith-len (drop offset text) t.kind t.bytes begins in
    let some : 0 < length t.bytes = len.0 in
    let fits : length t.bytes ≤ length (drop offset text) = len.1 in
    let long : length t.bytes ≡ end_of t - t.start = omega arith in
    let ends : end_of t ≤ length text = omega (arith, length-drop offset text) in (
      ends,
      BeginsWith-bytes (drop offset text) t.kind t.bytes begins
          ∙ (ap (λ n. take n (drop offset text)) long ∙ ap (λ n. take (end_of t - t.start) (drop n text)) (sym start)),
    )

items_in :
    (items : List Item) (text : List ℕ) (offset : ℕ) (closers : List ℕ) (ending : Option Fault)
    → IsCut (drop offset text) offset closers items ending
    → AllByRecursion (IsTokenIn text) items
items_in [] text offset closers ending cut = tt
items_in (t ∷ items) text offset closers ending cut =
    let n = length t.bytes in (
      item_in text offset t cut.0 cut.1,
      items_in items text (offset + n) (open_after t.kind t.bytes closers) ending
          (subst (λ xs. IsCut xs (offset + n) (open_after t.kind t.bytes closers) items ending)
          (drop-drop n offset text) cut.3),
    )

if_token :
    (text : List ℕ) (token : Bool) (t : Item) (ts : List Item)
    → IsTokenIn text t
    → AllByRecursion (IsTokenIn text) ts
    → AllByRecursion (IsTokenIn text) (if token then t ∷ ts else ts)
if_token text true t ts one all = (one, all)
if_token text false t ts one all = all

tokens_in :
    (text : List ℕ) (items : List Item)
    → AllByRecursion (IsTokenIn text) items
    → AllByRecursion (IsTokenIn text) (tokens_of items)
tokens_in text [] all = tt
tokens_in text (t ∷ items) all = if_token text (is_token t.kind) t (tokens_of items) all.0 (tokens_in text items all.1)

-- ---- an operation's parts

entry_in :
    (P : Item → Type 0) (o : PlacedOperation) (entries : List Entry)
    → In (operation o) entries
    → AllByRecursion (IsSpelledEntry P) entries
    → AllByRecursion (IsSpelled P) o.mops
entry_in P o [] i all = absurd i
entry_in P o (entry ∷ entries) (inl same) all = subst (IsSpelledEntry P) same all.0
entry_in P o (entry ∷ entries) (inr i) all = entry_in P o entries i all.1

-- what holds of each token of a text holds of those that spell an operation
pub spelled_by_tokens :
    (P : Item → Type 0) (text : List ℕ) (entries : List Entry) (fault : Option Fault) (o : PlacedOperation)
    → ((tokens : List Item) → (ending : Option Fault) → HasTokens text tokens ending → AllByRecursion P tokens)
    → Reads text entries fault
    → In (operation o) entries
    → AllByRecursion (IsSpelled P) o.mops
spelled_by_tokens P text entries fault o each reads i =
    let all = reading_from-spelled P reads.0 nothing_open reads.1 (each reads.0 reads.1 reads.2) tt in
    entry_in P o entries i (subst (AllByRecursion (IsSpelledEntry P)) (ap (λ (r : Reading). r.entries) reads.3) all)

row_in :
    (text : List ℕ) (tokens : List Item) (ending : Option Fault)
    → HasTokens text tokens ending
    → AllByRecursion (IsTokenIn text) tokens
row_in text tokens ending row =
    subst (AllByRecursion (IsTokenIn text)) (sym row.2) (tokens_in text row.0 (items_in row.0 text 0 [] ending row.1))

pub parts_spelled_in :
    (text : List ℕ) (entries : List Entry) (fault : Option Fault) (o : PlacedOperation)
    → Reads text entries fault
    → Contains entries (operation o)
    → All (IsMopIn text) o.mops
parts_spelled_in text entries fault o reads contains =
    All-from_recursion (IsMopIn text) o.mops
    (spelled_by_tokens (IsTokenIn text) text entries fault o (row_in text) reads
    (in_from_Contains (operation o) entries contains))

pub parts_spelled : (text : List ℕ) (o : PlacedOperation) → IsTextOf text o → All (IsMopIn text) o.mops
parts_spelled text o is =
    All-from_recursion (IsMopIn text) o.mops
    (spelled_by_tokens (IsTokenIn text) text (operation o ∷ []) None o (row_in text) is.2 (inl refl))

pub limits_kept : (text : List ℕ) (o : PlacedOperation) → IsTextOf text o → KeepsLimits text o
limits_kept text o is =
    let reads = is.2 in
    let found = found_in_text text (operation o ∷ []) None o reads (inl refl) in
    let kept = entry_of-limits found.c.opener found.closer found.c.members (operation o) found.gives in
    let start : o.start ≡ 0 = is.0 in
    let end : o.end ≡ length text = is.1 in
    let fits : (o.end - o.start) ≤ MAX_OPERATION_BYTES = kept.0 in
    let within : length text ≤ MAX_OPERATION_BYTES = omega arith in
    (within, kept.1, kept.2, kept.3)
