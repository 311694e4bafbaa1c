-- What is added to edges, loop by loop.
use Rattle.std.proofs.Common.{◌≡◌, ℕ, suc, ◌+◌, ◌<◌, ◌≤◌, List, [], ◌∷◌, ◌++◌, length, take, get_or, Bool, true, false, ◌||◌, ◌==◌, if◌then◌else◌, map, flat_map, Result, Ok, Err, OnErr, All, Some, None, unwrap_or, slice_get, refl, sym, ◌∙◌, ap, subst, arith, inl, inr, append_assoc, append-nil}
use Rattle.std.specs.List.{list_any}
use Rattle.std.proofs.lemmas.Bool.{eqb-true, eq-eqb}
use Rattle.std.proofs.lemmas.List.{take_all, take_more}
use Rattle.std.proofs.lemmas.List.Elements.{All-contains}
use Rattle.std.proofs.lemmas.List.Folds.{flat_map-map}
use Rattle.std.proofs.lemmas.Grind.{flat_map-append}
use Rattle.hist_types.specs.Edges.{Label, wr, Edge}
use Rattle.hist_types.specs.Versions.{process_pairs}
use Rattle.hist_types.specs.Transactions.{Transaction, Version, Open, version_eq, has_version, is_known_to_read}
use Rattle.hist_types.specs.declared.types.KeyOrder.{KeyOrder}
use Rattle.hist_types.proofs.Equality.{version_eq-same, version_eq-itself}
use Rattle.hist_types.proofs.Members.{In, Contains_from_in}
use Rattle.key_versions.specs.Histories.{installs_behind, readers_of, followers_of}
use Rattle.key_versions.specs.Tables.{Table}
use Rattle.key_versions.specs.declared.types.Follower.{Follower}
use Rattle.dep_edges.specs.OutEdges.{Begins, node_edge, reader_edges, later_edges, each_once}
use Rattle.dep_edges.specs.Tables.{IsNumber, AreNamedOnce, txn_at, version_at, later_in}
use Rattle.dep_edges.proofs.Places.{gathered_by_place}

-- ---- what was there stays in front

pub begins_at_error : {T E : Type 0} (r : Result T E) (before mid after es : List Edge) → mid ≡ before ++ es → Begins mid after → OnErr r (Begins before after)
begins_at_error (Ok x) before mid after es e b = tt
begins_at_error (Err x) before mid after es e b = (es ++ b.0, b.1 ∙ ap (λ xs. xs ++ b.0) e ∙ append_assoc before es b.0)

pub begins_behind : (before mid after es : List Edge) → mid ≡ before ++ es → Begins mid after → Begins before after
begins_behind before mid after es e b = (es ++ b.0, b.1 ∙ ap (λ xs. xs ++ b.0) e ∙ append_assoc before es b.0)

pub begins_same : (before after : List Edge) → after ≡ before → Begins before after
begins_same before after e = ([], e ∙ sym (append-nil before))

-- ---- readers and followers

pub readers_gathered :
    (ts : List Transaction) (from : ℕ) (v : Version)
    → flat_map (λ place. node_edge ts from (txn_at ts place) (wr v)) (readers_of ts v) ≡ reader_edges ts from v
readers_gathered ts from v =
    gathered_by_place (λ place t. if is_known_to_read t v then place ∷ [] else []) (λ place. node_edge ts from (txn_at ts place) (wr v))
    (λ u. if is_known_to_read u v then node_edge ts from u (wr v) else []) 0 ts
    (λ j u get. by_reading (is_known_to_read u v) (0 + j) u (at ts j u get))
  where
    at : (ts : List Transaction) (j : ℕ) (u : Transaction) → slice_get ts j ≡ Some u → txn_at ts (0 + j) ≡ u
    at ts j u get = let same : 0 + j ≡ j = omega arith in ap (txn_at ts) same ∙ ap (λ o. unwrap_or o (record { process = 0; invocation = 0; completion = None; status = Open; mops = [] })) get

    by_reading : (read : Bool) (p : ℕ) (u : Transaction) → txn_at ts p ≡ u → flat_map (λ place. node_edge ts from (txn_at ts place) (wr v)) (if read then p ∷ [] else []) ≡ (if read then node_edge ts from u (wr v) else [])
    by_reading true p u is = append-nil (node_edge ts from (txn_at ts p) (wr v)) ∙ ap (λ x. node_edge ts from x (wr v)) is
    by_reading false p u is = refl

pub later_gathered :
    (keys : KeyOrder) (ts : List Transaction) (from : ℕ) (label : Version → Label) (v : Version)
    → flat_map (λ (p : ℕ × Version). node_edge ts from (txn_at ts p.0) (label p.1)) (followers_of keys ts v) ≡ later_edges keys ts from label v
later_gathered keys ts from label v =
    gathered_by_place (λ place t. map (λ w. (place, w)) (installs_behind (process_pairs keys ts) t v)) (λ (p : ℕ × Version). node_edge ts from (txn_at ts p.0) (label p.1))
    (λ u. flat_map (λ w. node_edge ts from u (label w)) (installs_behind (process_pairs keys ts) u v)) 0 ts
    (λ j u get.
    flat_map-map (λ (p : ℕ × Version). node_edge ts from (txn_at ts p.0) (label p.1)) (λ w. (0 + j, w)) (installs_behind (process_pairs keys ts) u v)
    ∙ ap (λ x. flat_map (λ w. node_edge ts from x (label w)) (installs_behind (process_pairs keys ts) u v)) (at ts j u get))
  where
    at : (ts : List Transaction) (j : ℕ) (u : Transaction) → slice_get ts j ≡ Some u → txn_at ts (0 + j) ≡ u
    at ts j u get = let same : 0 + j ≡ j = omega arith in ap (txn_at ts) same ∙ ap (λ o. unwrap_or o (record { process = 0; invocation = 0; completion = None; status = Open; mops = [] })) get

pub followers_gathered :
    (keys : KeyOrder) (ts : List Transaction) (table : Table) (from : ℕ) (label : Version → Label) (v : Version) (fs : List Follower)
    → map (later_in table) fs ≡ followers_of keys ts v
    → flat_map (λ (f : Follower). node_edge ts from (txn_at ts f.txn) (label (version_at table f.version))) fs ≡ later_edges keys ts from label v
followers_gathered keys ts table from label v fs told =
    sym (flat_map-map (λ (p : ℕ × Version). node_edge ts from (txn_at ts p.0) (label p.1)) (later_in table) fs)
    ∙ ap (flat_map (λ (p : ℕ × Version). node_edge ts from (txn_at ts p.0) (label p.1))) told
    ∙ later_gathered keys ts from label v

-- what a loop has added, with the next item
pub next_added :
    {X : Type 0} (f : X → List Edge) (xs : List X) (n : ℕ) (d : X) (before mid after : List Edge)
    → n < length xs
    → mid ≡ before ++ flat_map f (take n xs)
    → after ≡ mid ++ f (get_or xs n d)
    → after ≡ before ++ flat_map f (take (n + 1) xs)
next_added f xs n d before mid after within e added =
    let x = get_or xs n d in
    added ∙ ap (λ es. es ++ f x) e
    ∙ append_assoc before (flat_map f (take n xs)) (f x)
    ∙ ap (λ es. before ++ es)
    (ap (λ es. flat_map f (take n xs) ++ es) (sym (append-nil (f x))) ∙ sym (flat_map-append f (take n xs) (x ∷ [])) ∙ ap (flat_map f) (sym (take_more xs n d within)))

-- what a whole loop has added
pub all_added :
    {X : Type 0} (f : X → List Edge) (xs : List X) (n : ℕ) (before after all : List Edge)
    → after ≡ before ++ flat_map f (take n xs)
    → length xs ≤ n
    → flat_map f xs ≡ all
    → after ≡ before ++ all
all_added f xs n before after all e over is = e ∙ ap (λ ys. before ++ flat_map f ys) (take_all n xs over) ∙ ap (λ es. before ++ es) is

pub by_numbers : {A : Type 0} (f : Version → List A) (table : Table) (ns : List ℕ) (vs : List Version) → map (version_at table) ns ≡ vs → flat_map (λ n. f (version_at table n)) ns ≡ flat_map f vs
by_numbers f table ns vs told = sym (flat_map-map f (version_at table) ns) ∙ ap (flat_map f) told

-- ---- each version once

same_tests : (a b : Bool) → (a ≡ true → b ≡ true) → (b ≡ true → a ≡ true) → a ≡ b
same_tests true b to back = sym (to refl)
same_tests false true to back = back refl
same_tests false false to back = refl

has_by_number :
    (table : Table) (n : ℕ) (ns : List ℕ)
    → ((m : ℕ) → In m ns → version_at table m ≡ version_at table n → m ≡ n)
    → has_version (map (version_at table) ns) (version_at table n) ≡ list_any (λ m. m == n) ns
has_by_number table n [] one = refl
has_by_number table n (m ∷ ns) one =
    ap (λ b. b || has_version (map (version_at table) ns) (version_at table n))
    (same_tests (version_eq (version_at table n) (version_at table m)) (m == n)
    (λ e. eq-eqb m n (one m (inl refl) (sym (version_eq-same (version_at table n) (version_at table m) e))))
    (λ e. subst (λ k. version_eq (version_at table n) (version_at table k) ≡ true) (sym (eqb-true m n e)) (version_eq-itself (version_at table n))))
    ∙ ap (λ b. (m == n) || b) (has_by_number table n ns (λ k i. one k (inr i)))

-- the versions that are left, without the first of them
pub once_more :
    (table : Table) (n : ℕ) (ns : List ℕ)
    → AreNamedOnce table
    → All (IsNumber table) (n ∷ ns)
    → each_once (map (version_at table) (n ∷ ns))
    ≡ (if list_any (λ m. m == n) ns then each_once (map (version_at table) ns) else version_at table n ∷ each_once (map (version_at table) ns))
once_more table n ns once within =
    ap (λ b. if b then each_once (map (version_at table) ns) else version_at table n ∷ each_once (map (version_at table) ns))
    (has_by_number table n ns (λ m i same.
    once m n (number m (inr i)) (number n (inl refl)) same))
  where
    number : (m : ℕ) → In m (n ∷ ns) → IsNumber table m
    number m i = All-contains (IsNumber table) (n ∷ ns) m within (Contains_from_in m (n ∷ ns) i)

-- what is left to add, after the first of them was added or passed over
pub left_after :
    (f : Version → List Edge) (table : Table) (n : ℕ) (ns : List ℕ) (out out' all : List Edge) (again : Bool)
    → AreNamedOnce table
    → All (IsNumber table) (n ∷ ns)
    → list_any (λ m. m == n) ns ≡ again
    → out' ≡ (if again then out else out ++ f (version_at table n))
    → out ++ flat_map f (each_once (map (version_at table) (n ∷ ns))) ≡ all
    → out' ++ flat_map f (each_once (map (version_at table) ns)) ≡ all
left_after f table n ns out out' all true once within e added before =
    let rest : List Version = each_once (map (version_at table) ns) in
    ap (λ es. es ++ flat_map f rest) added
    ∙ ap (λ vs. out ++ flat_map f vs) (sym (once_more table n ns once within ∙ ap (λ b. if b then rest else version_at table n ∷ rest) e))
    ∙ before
left_after f table n ns out out' all false once within e added before =
    let rest : List Version = each_once (map (version_at table) ns) in
    ap (λ es. es ++ flat_map f rest) added
    ∙ append_assoc out (f (version_at table n)) (flat_map f rest)
    ∙ ap (λ vs. out ++ flat_map f vs) (sym (once_more table n ns once within ∙ ap (λ b. if b then rest else version_at table n ∷ rest) e))
    ∙ before

pub begins_more : (before mid after es : List Edge) → Begins before mid → after ≡ mid ++ es → Begins before after
begins_more before mid after es b e = (b.0 ++ es, e ∙ ap (λ xs. xs ++ es) b.1 ∙ append_assoc before b.0 es)

pub all_later : (P : ℕ → Type 0) (n : ℕ) (ns : List ℕ) → All P (n ∷ ns) → All P ns
all_later P n ns all = λ k d below. all (suc k) d (omega (arith, below))
