-- Edges in order are those of one transaction after the other, each transaction's in order. So whoever sorts the edges that leave
-- each transaction has them all.
use Rattle.std.proofs.Common.{◌≡◌, inl, inr, ℕ, suc, ◌<◌, ◌≤◌, List, [], ◌∷◌, ◌++◌, Bool, true, false, ◌==◌, if◌then◌else◌, filter, flat_map, Contains, refl, sym, ◌∙◌, ap, subst, arith}
use native.Mathlib.Numerals.{unary_clauses}
use Rattle.std.specs.Bool.{⊤}
use Rattle.std.specs.Prelude.{◌↔◌}
use Rattle.std.specs.List.{sum_by}
use Rattle.std.specs.List.Sorted.{IsSortedBy, IsPermutation}
use Rattle.std.specs.Cmp.{nat_cmp_is}
use Rattle.std.specs.Ordering.{nat_cmp, is_eq, is_lt, ordering_then, ordering_reverse}
use Rattle.std.specs.declared.cmp.Ordering.{Ordering}
use Rattle.std.specs.declared.cmp.Ordering.TheVariants.{Less, Equal, Greater}
use Rattle.std.proofs.lemmas.Bool.{false≢true, eqb-true, eq-eqb}
use Rattle.std.proofs.lemmas.Cmp.{tied_itself}
use Rattle.std.proofs.lemmas.List.Elements.{All-contains}
use Rattle.std.proofs.lemmas.List.MinMax.{ranks_by}
use Rattle.std.proofs.lemmas.List.Sorted.{sorted_far, sum_by-IsPermutation, Contains-permutation, IsPermutation-sym}
use Rattle.std.proofs.lemmas.List.Sums.{sum_by-cons}
use Rattle.hist_types.specs.Edges.{Edge, edge, dependency_labels, dependency_edges}
use Rattle.history_laws.specs.EdgesInOrder.{Rise}
use Rattle.hist_types.specs.Lists.{NoneTwice}
use Rattle.hist_types.specs.Operations.{Operation}
use Rattle.hist_types.specs.EdgeOrder.{label_cmp, edge_cmp, in_order}
use Rattle.history_laws.specs.Times.{AreInvokedInOrder}
use Rattle.hist_types.specs.Transactions.{Transaction, transactions_of, is_node, nodes}
use Rattle.hist_types.specs.Versions.{version_pairs}
use Rattle.hist_types.specs.declared.types.KeyOrder.{KeyOrder}
use Rattle.history_laws.proofs.EdgeOrder.{edge_cmp_total, in_order-rise, in_order-among}
use Rattle.hist_types.proofs.Members.{In, in_from_Contains, Contains_from_in, in_append, in_each, in_some, in_map, in_filter, in_filtered, passes_filter}
use Rattle.history_laws.proofs.OrderEdges.{Comes, comes_from}
use Rattle.history_laws.proofs.PrintedEdges.{one_edge, in_order-all}
use Rattle.history_laws.proofs.ThinningTimes.{invoked_in_order}

-- ---- lists that rise

abbrev pub Rises : List Edge → Type 0
Rises [] = ⊤
Rises (e ∷ es) = ((f : Edge) → In f es → edge_cmp e f ≡ Less) × Rises es

rises : (es : List Edge) → Rise es → Rises es
rises [] r = tt
rises (e ∷ es) r = (λ f i. All-contains (λ later. edge_cmp e later ≡ Less) es f r.0 (Contains_from_in f es i), rises es r.1)

not_before_itself : (e : Edge) → edge_cmp e e ≡ Less → ⊥
not_before_itself e less = false≢true (ap is_eq (sym less ∙ tied_itself edge_cmp_total e))

not_both_ways : (e f : Edge) → edge_cmp e f ≡ Less → edge_cmp f e ≡ Less → ⊥
not_both_ways e f there back = not_before_itself e (edge_cmp_total.trans e f e there back)

-- two lists that rise are the same where they have the same members
pub same_rising :
    (es fs : List Edge)
    → Rises es
    → Rises fs
    → ((e : Edge) → In e es → In e fs)
    → ((e : Edge) → In e fs → In e es)
    → es ≡ fs
same_rising [] [] r s there back = refl
same_rising [] (f ∷ fs) r s there back = elim (back f (inl refl)) [ ]
same_rising (e ∷ es) [] r s there back = elim (there e (inl refl)) [ ]
same_rising (e ∷ es) (f ∷ fs) r s there back =
    ap (λ d. d ∷ es) first ∙ ap (λ ds. f ∷ ds) (same_rising es fs r.1 s.1 onward backward)
  where
    first : e ≡ f
    first = elim (there e (inl refl)) [
      | inl here ↦ sym here
      | inr i ↦ elim (back f (inl refl)) [ inl here ↦ here | inr j ↦ elim (not_both_ways e f (r.0 f j) (s.0 e i)) [ ] ]
    ]

    onward : (d : Edge) → In d es → In d fs
    onward d i = elim (there d (inr i)) [
      | inl here ↦ elim (not_before_itself e (subst (λ x. edge_cmp e x ≡ Less) (sym here ∙ sym first) (r.0 d i))) [ ]
      | inr j ↦ j
    ]

    backward : (d : Edge) → In d fs → In d es
    backward d i = elim (back d (inr i)) [
      | inl here ↦ elim (not_before_itself f (subst (λ x. edge_cmp f x ≡ Less) (sym here ∙ first) (s.0 d i))) [ ]
      | inr j ↦ j
    ]

rises_kept : (p : Edge → Bool) (passes : Bool) (e : Edge) (es : List Edge) → Rises (e ∷ es) → Rises (filter p es) → Rises (if passes then e ∷ filter p es else filter p es)
rises_kept p true e es r rest = (λ f i. r.0 f (in_filter p f es i), rest)
rises_kept p false e es r rest = rest

rises_filter : (p : Edge → Bool) (es : List Edge) → Rises es → Rises (filter p es)
rises_filter p [] r = tt
rises_filter p (e ∷ es) r = rises_kept p (p e) e es r (rises_filter p es r.1)

rises_append : (es fs : List Edge) → Rises es → Rises fs → ((e f : Edge) → In e es → In f fs → edge_cmp e f ≡ Less) → Rises (es ++ fs)
rises_append [] fs r s between = s
rises_append (e ∷ es) fs r s between = (
  λ f i. elim (in_append f es fs i) [ inl j ↦ r.0 f j | inr j ↦ between e f (inl refl) j ],
  rises_append es fs r.1 s (λ d f i j. between d f (inr i) j),
)

-- ---- transaction by transaction

-- those of the edges that leave the transaction
abbrev pub leaving : List Edge → Transaction → List Edge
leaving es t = filter (λ (e : Edge). e.from == t.invocation) es

leaves : (es : List Edge) (t : Transaction) (e : Edge) → In e (leaving es t) → e.from ≡ t.invocation
leaves es t e i = eqb-true e.from t.invocation (passes_filter (λ (d : Edge). d.from == t.invocation) e es i)

earlier_first : (e f : Edge) → e.from < f.from → edge_cmp e f ≡ Less
earlier_first e f below =
    ap (λ o. ordering_then o (ordering_then (nat_cmp e.to f.to) (label_cmp e.label f.label))) (sym (nat_cmp_is e.from f.from Less below))

rises_by : (es : List Edge) (ts : List Transaction) → Rises es → AreInvokedInOrder ts → Rises (flat_map (leaving es) ts)
rises_by es [] r order = tt
rises_by es (t ∷ ts) r order =
    rises_append (leaving es t) (flat_map (leaving es) ts) (rises_filter (λ (e : Edge). e.from == t.invocation) es r) (rises_by es ts r order.1)
    (λ e f i j.
    let found = in_some (leaving es) f ts j in
    let u : Transaction = found.0 in
    let first : e.from ≡ t.invocation = leaves es t e i in
    let second : f.from ≡ u.invocation = leaves es u f found.2 in
    let below : t.invocation < u.invocation = All-contains (λ (later : Transaction). t.invocation < later.invocation) ts u order.0 (Contains_from_in u ts found.1) in
    earlier_first e f (omega (arith, first, second, below)))

by_transaction :
    (es : List Edge) (ts : List Transaction)
    → Rises es
    → AreInvokedInOrder ts
    → ((e : Edge) → In e es → (t : Transaction) × In t ts × (e.from ≡ t.invocation))
    → flat_map (leaving es) ts ≡ es
by_transaction es ts r order from =
    same_rising (flat_map (leaving es) ts) es (rises_by es ts r order) r
    (λ e i. let found = in_some (leaving es) e ts i in in_filter (λ (d : Edge). d.from == found.0.invocation) e es found.2)
    (λ e i.
    let t = from e i in
    in_each (leaving es) e t.0 ts t.1 (in_filtered (λ (d : Edge). d.from == t.0.invocation) e es i (eq-eqb e.from t.0.invocation t.2)))

leaves_one : (keys : KeyOrder) (ts : List Transaction) (e : Edge) → In e (dependency_edges keys ts) → (t : Transaction) × In t ts × (e.from ≡ t.invocation)
leaves_one keys ts e i =
    let c : Comes (nodes ts) (dependency_labels (version_pairs keys ts)) e = comes_from (nodes ts) (dependency_labels (version_pairs keys ts)) e i in
    let found = in_map (edge c.0 c.1) e (dependency_labels (version_pairs keys ts) c.0 c.1) c.5 in
    (c.0, in_filter (is_node ts) c.0 ts c.2, ap (λ (d : Edge). d.from) (sym found.2))

among : (es : List Edge) (e : Edge) → In e (in_order es) → In e es
among es e i = in_from_Contains e es (in_order-among es e (Contains_from_in e (in_order es) i))

-- all dependency edges of a history in order
pub in_order-by_transaction :
    (keys : KeyOrder) (events : List Operation)
    → flat_map (leaving (in_order (dependency_edges keys (transactions_of events)))) (transactions_of events) ≡ in_order (dependency_edges keys (transactions_of events))
in_order-by_transaction keys events =
    let ts : List Transaction = transactions_of events in
    let es : List Edge = dependency_edges keys ts in
    by_transaction (in_order es) ts (rises (in_order es) (in_order-rise es)) (invoked_in_order events) (λ e i. leaves_one keys ts e (among es e i))

-- those that leave one transaction, if they rise
rising_leaving :
    (keys : KeyOrder) (events : List Operation) (t : Transaction) (fs : List Edge)
    → Rises fs
    → ((e : Edge) → Contains fs e ↔ (Contains (dependency_edges keys (transactions_of events)) e × (e.from ≡ t.invocation)))
    → fs ≡ leaving (in_order (dependency_edges keys (transactions_of events))) t
rising_leaving keys events t fs r exactly =
    let es : List Edge = dependency_edges keys (transactions_of events) in
    let p : Edge → Bool = λ e. e.from == t.invocation in
    same_rising fs (leaving (in_order es) t) r (rises_filter p (in_order es) (rises (in_order es) (in_order-rise es)))
    (λ e i.
    let both = (exactly e).0 (Contains_from_in e fs i) in
    in_filtered p e (in_order es) (in_from_Contains e (in_order es) (in_order-all keys events e both.0)) (eq-eqb e.from t.invocation both.1))
    (λ e i.
    in_from_Contains e fs ((exactly e).1 (
      Contains_from_in e es (among es e (in_filter p e (in_order es) i)),
      leaves (in_order es) t e i,
    )))

-- ---- edges that were sorted

-- the edges that compare equal to this one, counted
abbrev tie : Edge → Edge → ℕ
tie e f = if is_eq (edge_cmp e f) then 1 else 0

tied : (e f : Edge) (o : Ordering) → edge_cmp e f ≡ o → tie e f ≡ (if is_eq o then 1 else 0)
tied e f o same = ap (λ x. if is_eq x then 1 else 0) same

no_ties : (e : Edge) (es : List Edge) → ((f : Edge) → In f es → edge_cmp e f ≡ Equal → ⊥) → sum_by (tie e) es ≡ 0
no_ties e [] none = refl
no_ties e (f ∷ fs) none = by (no_ties e fs (λ g i. none g (inr i))) (edge_cmp e f) refl
  where
    by : sum_by (tie e) fs ≡ 0 → (o : Ordering) → edge_cmp e f ≡ o → sum_by (tie e) (f ∷ fs) ≡ 0
    by rest Equal same = elim (none f (inl refl) same) [ ]
    by rest Less same = let t : tie e f ≡ 0 = tied e f Less same in omega (arith, sum_by-cons (tie e) f fs, t, rest)
    by rest Greater same = let t : tie e f ≡ 0 = tied e f Greater same in omega (arith, sum_by-cons (tie e) f fs, t, rest)

one_tie :
    (e : Edge) (es : List Edge)
    → ((f : Edge) → In f es → edge_cmp e f ≡ Equal → e ≡ f)
    → NoneTwice es
    → sum_by (tie e) es ≤ 1
one_tie e [] one once = omega arith
one_tie e (f ∷ fs) one once = by (one_tie e fs (λ g i. one g (inr i)) once.1) (edge_cmp e f) refl
  where
    by : sum_by (tie e) fs ≤ 1 → (o : Ordering) → edge_cmp e f ≡ o → sum_by (tie e) (f ∷ fs) ≤ 1
    by rest Equal same =
        let t : tie e f ≡ 1 = tied e f Equal same in
        let none : sum_by (tie e) fs ≡ 0 = no_ties e fs (λ g i ties. once.0 (subst (Contains fs) (sym (one g (inr i) ties) ∙ one f (inl refl) same) (Contains_from_in g fs i))) in
        omega (arith, sum_by-cons (tie e) f fs, t, none)
    by rest Less same = let t : tie e f ≡ 0 = tied e f Less same in omega (arith, sum_by-cons (tie e) f fs, t, rest)
    by rest Greater same = let t : tie e f ≡ 0 = tied e f Greater same in omega (arith, sum_by-cons (tie e) f fs, t, rest)

some_tie : (e f : Edge) (es : List Edge) → In f es → edge_cmp e f ≡ Equal → 1 ≤ sum_by (tie e) es
some_tie e f [] i same = elim i [ ]
some_tie e f (g ∷ gs) (inl here) same =
    let t : tie e g ≡ 1 = tied e g Equal (subst (λ x. edge_cmp e x ≡ Equal) (sym here) same) in
    omega (arith, sum_by-cons (tie e) g gs, t)
some_tie e f (g ∷ gs) (inr i) same = omega (arith, sum_by-cons (tie e) g gs, some_tie e f gs i same)

abbrev before : Edge → Edge → Bool
before a b = is_lt (edge_cmp a b)

none_before : (e : Edge) (es : List Edge) → IsSortedBy before (e ∷ es) → (f : Edge) → In f es → is_lt (edge_cmp f e) ≡ false
none_before e es sorted f i =
    let c = Contains_from_in f es i in
    let far = sorted_far before (ranks_by edge_cmp_total (λ (d : Edge). d)) (e ∷ es) sorted 0 (suc c.0) f (omega arith) (omega (arith, c.1)) in
    subst (λ x. is_lt (edge_cmp x e) ≡ false) c.2 far

sorted_rest : (e : Edge) (es : List Edge) → IsSortedBy before (e ∷ es) → IsSortedBy before es
sorted_rest e es sorted k d low high =
    simp unary_clauses (simp unary_clauses at (sorted (suc k) d (omega arith) (omega (arith, high))))

rises_sorted : (es : List Edge) → IsSortedBy before es → ((e : Edge) → In e es → sum_by (tie e) es ≤ 1) → Rises es
rises_sorted [] sorted few = tt
rises_sorted (e ∷ es) sorted few = (λ f i. by f i (edge_cmp e f) refl, rises_sorted es (sorted_rest e es sorted) (λ d i. fewer d i))
  where
    fewer : (d : Edge) → In d es → sum_by (tie d) es ≤ 1
    fewer d i = omega (arith, sum_by-cons (tie d) e es, few d (inr i))

    by : (f : Edge) → In f es → (o : Ordering) → edge_cmp e f ≡ o → edge_cmp e f ≡ Less
    by f i Less same = same
    by f i Equal same =
        let t : tie e e ≡ 1 = tied e e Equal (tied_itself edge_cmp_total e) in
        let none : ⊥ = omega (arith, sum_by-cons (tie e) e es, t, some_tie e f es i same, few e (inl refl)) in
        elim none [ ]
    by f i Greater same =
        let back : edge_cmp f e ≡ Less = edge_cmp_total.antisymm f e ∙ ap ordering_reverse same in
        elim (false≢true (sym (none_before e es sorted f i) ∙ ap is_lt back)) [ ]

-- the dependency edges that leave a transaction, none twice, are those in order once they are sorted
pub sorted_leaving :
    (keys : KeyOrder) (events : List Operation) (t : Transaction) (es sorted : List Edge)
    → ((e : Edge) → Contains es e ↔ (Contains (dependency_edges keys (transactions_of events)) e × (e.from ≡ t.invocation)))
    → NoneTwice es
    → IsPermutation es sorted
    → IsSortedBy (λ a b. is_lt (edge_cmp a b)) sorted
    → sorted ≡ leaving (in_order (dependency_edges keys (transactions_of events))) t
sorted_leaving keys events t es sorted exactly once moved up =
    rising_leaving keys events t sorted (rises_sorted sorted up few) (λ e. (λ c. (exactly e).0 (back e c), λ c. Contains-permutation es sorted e moved ((exactly e).1 c)))
  where
    back : (e : Edge) → Contains sorted e → Contains es e
    back e c = Contains-permutation sorted es e (IsPermutation-sym es sorted moved) c

    of_history : (e : Edge) → In e es → In e (dependency_edges keys (transactions_of events))
    of_history e i = in_from_Contains e (dependency_edges keys (transactions_of events)) ((exactly e).0 (Contains_from_in e es i)).0

    few : (e : Edge) → In e sorted → sum_by (tie e) sorted ≤ 1
    few e i =
        let j : In e es = in_from_Contains e es (back e (Contains_from_in e sorted i)) in
        let counted : sum_by (tie e) sorted ≡ sum_by (tie e) es = sum_by-IsPermutation (tie e) es sorted moved in
        let most : sum_by (tie e) es ≤ 1 = one_tie e es (λ f k same. one_edge keys events e f (of_history e j) (of_history f k) same) once in
        omega (arith, counted, most)
