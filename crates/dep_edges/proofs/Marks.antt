-- The marks of all pieces, and which transactions are nodes.
use Rattle.std.proofs.Common.{◌≡◌, ℕ, zero, suc, ◌+◌, ◌<◌, List, [], ◌∷◌, ◌++◌, length, get_or, take, drop, Bool, true, false, not, ◌&&◌, ◌||◌, ◌==◌, if◌then◌else◌, map, Option, Some, None, unwrap_or, slice_get, Contains, All, refl, sym, ◌∙◌, ap, subst, arith, inl, inr, pos}
use Rattle.std.specs.List.{list_any}
use Rattle.std.specs.Option.{is_some}
use Rattle.std.proofs.Math.ListN.{set}
use Rattle.std.proofs.lemmas.Bool.{false≢true, and_parts, and_from, cases_Bool, eqb-true, eq-eqb}
use Rattle.std.proofs.lemmas.List.{get_or-set_same, get_or-set_other, length-set, length-map}
use Rattle.std.proofs.lemmas.Option.{none-some, same_Some}
use Rattle.std.proofs.lemmas.Grind.{take_at_read, fold-append}
use Rattle.hist_types.specs.Journal.{Write, writes_of}
use Rattle.hist_types.specs.Operations.{Mop, read, write}
use Rattle.hist_types.specs.Transactions.{Transaction, Version, Open, version_of, has_version, is_ok, is_failed, is_known_to_read, writes, was_read, is_node}
use Rattle.hist_types.specs.Atoms.{integer}
use Rattle.hist_types.specs.Versions.{nil_of}
use Rattle.hist_types.specs.declared.types.KeyOrder.{KeyOrder}
use Rattle.hist_types.proofs.Members.{In, in_from_Contains, Contains_from_in, in_front, in_back, in_map, in_mapped}
use Rattle.history_laws.proofs.Processes.{told_apart}
use Rattle.history_laws.proofs.ThinningPaths.{any_passes, some_passes}
use Rattle.history_laws.proofs.VersionMembers.{in_from_has, has_from_in}
use Rattle.history_laws.proofs.WrittenOnce.{AreApart, one_writer}
use Rattle.key_versions.specs.Histories.{named_in, named_by, from_place, readers_of, writer_of}
use Rattle.key_versions.specs.Tables.{Table, IsTableOf}
use Rattle.key_versions.specs.declared.types.Writer.{Writer}
use Rattle.dep_edges.specs.Histories.{AreOfHistory, History}
use Rattle.dep_edges.specs.Pieces.{Piece, IsOf, ArePiecesOf, unfailed_place, read_writer, with_marks, with_all_marks}
use Rattle.dep_edges.specs.Tables.{txn_at, version_at, IsPlace, IsNumber}
use Rattle.dep_edges.proofs.Out.{apart_of}
use Rattle.dep_edges.proofs.Lists.{all_in, within_at}
use Rattle.dep_edges.proofs.Places.{from_some_place}
use Rattle.dep_edges.proofs.Writers.{in_at, writer_wrote, has_writer}

-- ---- lists by place

same_lists : (xs ys : List Bool) → length xs ≡ length ys → ((k : ℕ) → k < length ys → get_or xs k false ≡ get_or ys k false) → xs ≡ ys
same_lists [] [] e same = refl
same_lists [] (y ∷ ys) e same = let none : ⊥ = omega (arith, e) in elim none [ ]
same_lists (x ∷ xs) [] e same = let none : ⊥ = omega (arith, e) in elim none [ ]
same_lists (x ∷ xs) (y ∷ ys) e same =
    ap (λ z. z ∷ xs) (same 0 (omega arith)) ∙ ap (λ zs. y ∷ zs) (same_lists xs ys (omega (arith, e)) (λ k below. same (suc k) (omega (arith, below))))

mapped_at : {X : Type 0} (f : X → Bool) (xs : List X) (k : ℕ) (x : X) → slice_get xs k ≡ Some x → get_or (map f xs) k false ≡ f x
mapped_at f [] k x e = elim (none-some x e) [ ]
mapped_at f (y ∷ xs) zero x e = ap f (same_Some y x e)
mapped_at f (y ∷ xs) (suc k) x e = mapped_at f xs k x e

pub place_in : {X : Type 0} (xs : List X) (x : X) → In x xs → (k : ℕ) × (slice_get xs k ≡ Some x)
place_in [] x i = elim i [ ]
place_in (y ∷ xs) x (inl e) = (0, ap Some e)
place_in (y ∷ xs) x (inr i) = let found = place_in xs x i in (suc found.0, found.1)

one_place : (ts : List Transaction) → AreApart ts → (i j : ℕ) (t : Transaction) → slice_get ts i ≡ Some t → slice_get ts j ≡ Some t → i ≡ j
one_place [] a i j t e d = elim (none-some t e) [ ]
one_place (u ∷ ts) a zero zero t e d = refl
one_place (u ∷ ts) a zero (suc j) t e d = elim (a.0 (subst (λ x. In x ts) (sym (same_Some u t e)) (in_at ts j t d))) [ ]
one_place (u ∷ ts) a (suc i) zero t e d = elim (a.0 (subst (λ x. In x ts) (sym (same_Some u t d)) (in_at ts i t e))) [ ]
one_place (u ∷ ts) a (suc i) (suc j) t e d = ap suc (one_place ts a.1 i j t e d)

pub to_some_place :
    {A : Type 0} (f : ℕ → Transaction → List A) (k : ℕ) (ts : List Transaction) (j : ℕ) (t : Transaction) (y : A)
    → slice_get ts j ≡ Some t
    → In y (f (k + j) t)
    → In y (from_place f k ts)
to_some_place f k [] j t y e i = elim (none-some t e) [ ]
to_some_place f k (u ∷ ts) zero t y e i =
    let at : k + 0 ≡ k = omega arith in
    in_front y (f k u) (from_place f (k + 1) ts) (subst (λ x. In y (f k x)) (sym (same_Some u t e)) (subst (λ n. In y (f n t)) at i))
to_some_place f k (u ∷ ts) (suc j) t y e i =
    let at : k + suc j ≡ k + 1 + j = omega arith in
    in_back y (f k u) (from_place f (k + 1) ts) (to_some_place f (k + 1) ts j t y e (subst (λ n. In y (f n t)) at i))

same_tests : (a b : Bool) → (a ≡ true → b ≡ true) → (b ≡ true → a ≡ true) → a ≡ b
same_tests true b to back = sym (to refl)
same_tests false true to back = back refl
same_tests false false to back = refl

pub has_one : (xs : List ℕ) (x : ℕ) → In x xs → not (length xs == 0) ≡ true
has_one [] x i = elim i [ ]
has_one (y ∷ xs) x i = ap not (told_apart (length (y ∷ xs)) 0 (λ e. omega (arith, e)))

one_of : (xs : List ℕ) → not (length xs == 0) ≡ true → (x : ℕ) × In x xs
one_of [] e = elim (false≢true e) [ ]
one_of (x ∷ xs) e = (x, inl refl)

pub each_of : {X : Type 0} (P : X → Type 0) (xs : List X) (x : X) → All P xs → In x xs → P x
each_of P xs x all i = let (k, below, here) = Contains_from_in x xs i in subst P here (all k x below)

pub version_is : (table : Table) (n : ℕ) (v : Version) → slice_get table.versions n ≡ Some v → version_at table n ≡ v
version_is table n v e = ap (λ o. unwrap_or o (nil_of (integer (pos 0)))) e

-- ---- marks, one by one

or_none : (b : Bool) → b ≡ (b || false)
or_none true = refl
or_none false = refl

or_some : (b : Bool) → true ≡ (b || true)
or_some true = refl
or_some false = refl

or_later : (a b c : Bool) → ((a || b) || c) ≡ (a || (b || c))
or_later true b c = refl
or_later false b c = refl

set_at : (marks : List Bool) (n k : ℕ) → k < length marks → get_or (set marks n true) k false ≡ (get_or marks k false || (n == k))
set_at marks n k below = elim (cases_Bool (n == k)) [
  | inl e ↦ (
      let here : n ≡ k = eqb-true n k e in
      subst (λ m. get_or (set marks m true) k false ≡ true) (sym here) (get_or-set_same marks k true false below)
      ∙ or_some (get_or marks k false)
      ∙ ap (λ b. get_or marks k false || b) (sym e))
  | inr e ↦ (
      let other : ¬ (k ≡ n) = λ same. false≢true (sym e ∙ eq-eqb n k (sym same)) in
      get_or-set_other marks n k true false other
      ∙ or_none (get_or marks k false)
      ∙ ap (λ b. get_or marks k false || b) (sym e))
]

pub length_with_marks : (marks : List Bool) (places : List ℕ) → length (with_marks marks places) ≡ length marks
length_with_marks marks [] = refl
length_with_marks marks (p ∷ places) = length_with_marks (set marks p true) places ∙ length-set marks p true

-- whether it is one of them
abbrev is_one : ℕ → List ℕ → Bool
is_one k places = list_any (λ p. p == k) places

marks_at : (marks : List Bool) (places : List ℕ) (k : ℕ) → k < length marks → get_or (with_marks marks places) k false ≡ (get_or marks k false || is_one k places)
marks_at marks [] k below = or_none (get_or marks k false)
marks_at marks (p ∷ places) k below =
    marks_at (set marks p true) places k (subst (λ n. k < n) (sym (length-set marks p true)) below)
    ∙ ap (λ b. b || is_one k places) (set_at marks p k below)
    ∙ or_later (get_or marks k false) (p == k) (is_one k places)

pub length_all_marks : (marks : List Bool) (pieces : List Piece) → length (with_all_marks marks pieces) ≡ length marks
length_all_marks marks [] = refl
length_all_marks marks (p ∷ pieces) = length_all_marks (with_marks marks p.writers) pieces ∙ length_with_marks marks p.writers

-- whether one of the pieces has it
abbrev some_has : ℕ → List Piece → Bool
some_has k pieces = list_any (λ (p : Piece). is_one k p.writers) pieces

all_at : (marks : List Bool) (pieces : List Piece) (k : ℕ) → k < length marks → get_or (with_all_marks marks pieces) k false ≡ (get_or marks k false || some_has k pieces)
all_at marks [] k below = or_none (get_or marks k false)
all_at marks (p ∷ pieces) k below =
    all_at (with_marks marks p.writers) pieces k (subst (λ n. k < n) (sym (length_with_marks marks p.writers)) below)
    ∙ ap (λ b. b || some_has k pieces) (marks_at marks p.writers k below)
    ∙ or_later (get_or marks k false) (is_one k p.writers) (some_has k pieces)

-- ---- who is marked

one_if : (test : Bool) (n m : ℕ) → In m (if test then n ∷ [] else []) → test ≡ true
one_if true n m i = refl
one_if false n m i = elim i [ ]

pub in_if : (test : Bool) (n : ℕ) → test ≡ true → In n (if test then n ∷ [] else [])
in_if test n e = subst (λ b. In n (if b then n ∷ [] else [])) (sym e) (inl refl)

some_if : (test : Bool) (n k : ℕ) → (if test then Some n else None) ≡ Some k → (test ≡ true) × (n ≡ k)
some_if true n k e = (refl, same_Some n k e)
some_if false n k e = elim (none-some k e) [ ]

was_written : (ts : List Transaction) (k : ℕ) (v : Version) (o : Option Writer) (was_read : Bool) → writer_of ts v ≡ o → unfailed_place ts o was_read ≡ Some k → (slice_get ts k ≡ Some (txn_at ts k)) × (writes (txn_at ts k) v ≡ true) × (not (is_failed (txn_at ts k)) ≡ true) × (was_read ≡ true)
was_written ts k v None was_read is e = elim (none-some k e) [ ]
was_written ts k v (Some w) was_read is e =
    let (both, here) = some_if (was_read && not (is_failed (txn_at ts w.txn))) w.txn k e in
    let (was, unfailed) = and_parts was_read (not (is_failed (txn_at ts w.txn))) both in
    let by = writer_wrote ts v w is in (
      subst (λ n. slice_get ts n ≡ Some (txn_at ts n)) here by.place,
      subst (λ n. writes (txn_at ts n) v ≡ true) here by.wrote,
      subst (λ n. not (is_failed (txn_at ts n)) ≡ true) here unfailed,
      was,
    )

-- there is such a transaction, and some transaction reads what it wrote
marked_was_read : (ts : List Transaction) (k : ℕ) (v : Version) → read_writer ts v ≡ Some k → (not (is_failed (txn_at ts k)) && was_read ts (txn_at ts k)) ≡ true
marked_was_read ts k v e =
    let t = txn_at ts k in
    let (place, wrote, unfailed, was) = was_written ts k v (writer_of ts v) (not (length (readers_of ts v) == 0)) refl e in
    let (p, reader) = one_of (readers_of ts v) was in
    let (j, u, get, i) = from_some_place (λ place t. if is_known_to_read t v then place ∷ [] else []) 0 ts p reader in
    let seen : is_known_to_read u v ≡ true = one_if (is_known_to_read u v) (0 + j) p i in
    let (a, among, made) = in_map version_of v (writes_of t.mops) (in_from_has v (map version_of (writes_of t.mops)) wrote) in
    and_from (not (is_failed t)) (was_read ts t) unfailed
    (any_passes (λ w. list_any (λ r. is_known_to_read r (version_of w)) ts) a (writes_of t.mops) among
    (any_passes (λ r. is_known_to_read r (version_of a)) u ts (in_at ts j u get) (subst (λ x. is_known_to_read u x ≡ true) (sym made) seen)))

pub place_of_writer : (ts : List Transaction) (k : ℕ) (v : Version) → read_writer ts v ≡ Some k → IsPlace ts k
place_of_writer ts k v e =
    let (place, wrote, unfailed, was) = was_written ts k v (writer_of ts v) (not (length (readers_of ts v) == 0)) refl e in
    within_at ts k (txn_at ts k) place

named : (ok : Bool) (mops : List Mop) (w : Write) → In w (writes_of mops) → In (version_of w) (named_in ok mops)
named ok [] w i = elim i [ ]
named true (read key value ∷ mops) w i = inr (inr (named true mops w i))
named false (read key value ∷ mops) w i = inr (named false mops w i)
named ok (write key value ∷ mops) w (inl e) = inr (inl (ap version_of e))
named ok (write key value ∷ mops) w (inr i) = inr (inr (named ok mops w i))

some_writer : (o : Option Writer) → is_some o ≡ true → (w : Writer) × (o ≡ Some w)
some_writer None e = elim (false≢true e) [ ]
some_writer (Some w) e = (w, refl)

read_is_marked :
    (keys : KeyOrder) (ts : List Transaction) (table : Table)
    → AreOfHistory ts
    → IsTableOf keys ts table
    → (k : ℕ) (t : Transaction)
    → slice_get ts k ≡ Some t
    → (not (is_failed t) && was_read ts t) ≡ true
    → (number : ℕ) × IsNumber table number × (read_writer ts (version_at table number) ≡ Some k)
read_is_marked keys ts table of told k t at e =
    let (unfailed, was) = and_parts (not (is_failed t)) (was_read ts t) e in
    let (a, among, some) = some_passes (λ w. list_any (λ r. is_known_to_read r (version_of w)) ts) (writes_of t.mops) was in
    let v : Version = version_of a in
    let (u, there, seen) = some_passes (λ r. is_known_to_read r v) ts some in
    let (j, get) = place_in ts u there in
    let wrote : writes t v ≡ true = has_from_in v (map version_of (writes_of t.mops)) (in_mapped version_of a (writes_of t.mops) among) in
    let i : In t ts = in_at ts k t at in
    let in_table : In v table.versions =
    in_from_has v table.versions (told.named v ∙ any_passes (λ (x : Transaction). has_version (named_by x) v) t ts i (has_from_in v (named_by t) (named (is_ok t) t.mops a among))) in
    let (number, found) = place_in table.versions v in_table in
    let (w, is) = some_writer (writer_of ts v) (has_writer ts v ∙ any_passes (λ x. writes x v) t ts i wrote) in
    let by = writer_wrote ts v w is in
    let same : txn_at ts w.txn ≡ t = one ts of (txn_at ts w.txn) t v by.among (Contains_from_in t ts i) by.wrote wrote in
    let here : w.txn ≡ k = one_place ts (apart_of ts of) w.txn k t (by.place ∙ ap Some same) at in
    let was_read : not (length (readers_of ts v) == 0) ≡ true =
    has_one (readers_of ts v) (0 + j) (to_some_place (λ place x. if is_known_to_read x v then place ∷ [] else []) 0 ts j u (0 + j) get (in_if (is_known_to_read u v) (0 + j) seen)) in
    let by_it : read_writer ts v ≡ Some k =
    ap (λ o. unfailed_place ts o (not (length (readers_of ts v) == 0))) is
    ∙ ap (λ b. if b then Some w.txn else None)
    (and_from (not (length (readers_of ts v) == 0)) (not (is_failed (txn_at ts w.txn))) was_read (subst (λ x. not (is_failed x) ≡ true) (sym same) unfailed))
    ∙ ap Some here in
    (number, within_at table.versions number v found, ap (read_writer ts) (version_is table number v found) ∙ by_it)
  where
    one : (ts : List Transaction) → AreOfHistory ts → (x t : Transaction) (v : Version) → Contains ts x → Contains ts t → writes x v ≡ true → writes t v ≡ true → x ≡ t
    one ts (events, kept, of) x t v i j e d = one_writer events kept x t (subst (λ us. Contains us x) of i) (subst (λ us. Contains us t) of j) v e d

node_at :
    (h : History) (pieces : List Piece)
    → AreOfHistory h.txns
    → IsTableOf h.table.keys h.txns h.table
    → ArePiecesOf h pieces
    → (k : ℕ) (t : Transaction)
    → slice_get h.txns k ≡ Some t
    → get_or (with_all_marks (map is_ok h.txns) pieces) k false ≡ is_node h.txns t
node_at h pieces of told are k t at =
    let ts = h.txns in
    let below : k < length ts = within_at ts k t at in
    let is : txn_at ts k ≡ t = ap (λ o. unwrap_or o (record { process = 0; invocation = 0; completion = None; status = Open; mops = [] })) at in
    let same : some_has k pieces ≡ (not (is_failed t) && was_read ts t) =
    same_tests (some_has k pieces) (not (is_failed t) && was_read ts t)
    (λ e.
    let (piece, among, has) = some_passes (λ (p : Piece). is_one k p.writers) pieces e in
    let (p, there, here) = some_passes (λ p. p == k) piece.writers has in
    let (number, within, by) = each_of (IsOf h) pieces piece are.of among p (Contains_from_in p piece.writers there) in
    subst (λ x. (not (is_failed x) && was_read ts x) ≡ true) is
    (marked_was_read ts k (version_at h.table number) (by ∙ ap Some (eqb-true p k here))))
    (λ e.
    let (number, within, by) = read_is_marked h.table.keys ts h.table of told k t at e in
    let (piece, among, seen) = are.seen number within in
    any_passes (λ (p : Piece). is_one k p.writers) piece pieces (in_from_Contains piece pieces among)
    (any_passes (λ p. p == k) k piece.writers (in_from_Contains k piece.writers (seen.writer k by)) (eq-eqb k k refl))) in
    all_at (map is_ok ts) pieces k (subst (λ n. k < n) (sym (length-map ts is_ok)) below)
    ∙ ap (λ b. b || some_has k pieces) (mapped_at is_ok ts k t at)
    ∙ ap (λ b. is_ok t || b) same

-- with the marks of all pieces exactly the nodes are marked
pub nodes_marked :
    (h : History) (pieces : List Piece)
    → AreOfHistory h.txns
    → IsTableOf h.table.keys h.txns h.table
    → ArePiecesOf h pieces
    → with_all_marks (map is_ok h.txns) pieces ≡ map (is_node h.txns) h.txns
nodes_marked h pieces of told are =
    let ts = h.txns in
    same_lists (with_all_marks (map is_ok ts) pieces) (map (is_node ts) ts)
    (length_all_marks (map is_ok ts) pieces ∙ length-map ts is_ok ∙ sym (length-map ts (is_node ts)))
    (λ k below.
    let within : k < length ts = subst (λ n. k < n) (length-map ts (is_node ts)) below in
    let (t, at) = item_at ts k within in
    node_at h pieces of told are k t at ∙ sym (mapped_at (is_node ts) ts k t at))
  where
    item_at : (ts : List Transaction) (k : ℕ) → k < length ts → (t : Transaction) × (slice_get ts k ≡ Some t)
    item_at [] k below = let none : ⊥ = omega (arith, below) in elim none [ ]
    item_at (t ∷ ts) zero below = (t, refl)
    item_at (t ∷ ts) (suc k) below = item_at ts k (omega (arith, below))

-- one piece more
pub marks_more :
    (marks : List Bool) (pieces : List Piece) (i : ℕ) (piece : Piece)
    → i < length pieces
    → piece ≡ get_or pieces i piece
    → with_all_marks marks (take (i + 1) pieces) ≡ with_marks (with_all_marks marks (take i pieces)) piece.writers
marks_more marks pieces i piece below is =
    ap (with_all_marks marks) ((take_at_read pieces i piece below).1 ∙ ap (λ p. take i pieces ++ p ∷ []) (sym is))
    ∙ fold-append (λ ms (p : Piece). with_marks ms p.writers) marks (take i pieces) (piece ∷ [])

-- the places of a piece are places of the history
pub places_of : (h : History) (piece : Piece) → IsOf h piece → All (IsPlace h.txns) piece.writers
places_of h piece of =
    all_in (IsPlace h.txns) piece.writers (λ place i.
    let (number, within, by) = of place (Contains_from_in place piece.writers i) in
    place_of_writer h.txns place (version_at h.table number) by)

-- what is written through a slice of a whole list
pub written_back : {X : Type 0} (xs ys : List X) (n : ℕ) → length xs ≡ n → take n (xs ++ drop (length xs) ys) ≡ xs
written_back xs ys n e = ap (λ m. take m (xs ++ drop (length xs) ys)) (sym e) ∙ take_front xs (drop (length xs) ys)
  where
    take_front : {X : Type 0} (xs ys : List X) → take (length xs) (xs ++ ys) ≡ xs
    take_front [] ys = refl
    take_front (x ∷ xs) ys = ap (λ zs. x ∷ zs) (take_front xs ys)
