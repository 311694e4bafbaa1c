-- What an order says of its transactions: predecessors, and where they are.
use Rattle.std.proofs.Common.{◌≡◌, ◌∙◌, ◌<◌, ◌+◌, ℕ, zero, suc, List, [], ◌∷◌, ◌++◌, length, get_or, map, filter, Bool, true, false, ◌||◌, ◌==◌, nat_eq, if◌then◌else◌, Some, refl, sym, ap, subst, arith, inl, inr, add-one}
use Rattle.std.specs.Prelude.{slice_get, slice_index}
use Rattle.std.specs.List.{list_any, range_with_len, IsDistinct}
use Rattle.std.proofs.lemmas.Bool.{eqb-true, eqb-false, eq-eqb, ne_eqb}
use Rattle.std.proofs.lemmas.List.{length-map, get_or-map, get_or_default}
use Rattle.std.proofs.lemmas.List.Elements.{filter-append}
use Rattle.std.proofs.lemmas.Map.Keys.{apart_from_distinct, IsDistinct-from_apart}
use Rattle.std.proofs.lemmas.Option.{slice_get_within, slice_get-get_or, get_or_from_slice_get, same_Some}
use Rattle.hist_types.specs.Edges.{Label, Edge, edge, order_labels, all_order_edges}
use Rattle.hist_types.specs.Transactions.{Transaction}
use Rattle.hist_types.specs.declared.types.Level.{Level}
use Rattle.hist_types.specs.declared.types.Level.TheVariants.{Plain, Process, Realtime}
use Rattle.hist_types.proofs.Members.{In, in_from_Contains, Contains_from_in, in_each, in_mapped, in_map}
use Rattle.history_laws.proofs.OrderEdges.{comes_from}
use Rattle.order_frontier.specs.Predecessors.{Before, process_edge, realtime_edge, edges_to, edges_of, NoPredecessorTwice, name_of}
use Rattle.order_frontier.specs.declared.types.Predecessor.{Predecessor}
use Rattle.dep_edges.specs.Histories.{AreOfHistory}
use Rattle.dep_edges.specs.Tables.{txn_at}
use Rattle.dep_edges.proofs.Lists.{all_in}
use Rattle.dep_edges.proofs.Out.{one_by_invocation}
use Rattle.edge_graph.specs.Parts.{IsOrderOf}
use Rattle.edge_graph.specs.Successors.{ArePlaces, place_of, predecessors_at, HavePlaces, HaveOwnPlaces, has_place, has_invocation, is_successor, list_at, AreFirstSuccessors}
use Rattle.edge_graph.proofs.Lists.{txn_read}

-- ---- tests and lists

pub same_tests : (a b : Bool) → (a ≡ true → b ≡ true) → (b ≡ true → a ≡ true) → a ≡ b
same_tests true b to back = sym (to refl)
same_tests false true to back = back refl
same_tests false false to back = refl

any_alike : {X : Type 0} (p q : X → Bool) (xs : List X) → ((x : X) → In x xs → p x ≡ q x) → list_any p xs ≡ list_any q xs
any_alike p q [] same = refl
any_alike p q (x ∷ xs) same = ap (λ b. b || list_any p xs) (same x (inl refl)) ∙ ap (λ b. q x || b) (any_alike p q xs (λ y i. same y (inr i)))

pub in_at : {X : Type 0} (xs : List X) (i : ℕ) (d : X) → i < length xs → In (get_or xs i d) xs
in_at xs i d h = in_from_Contains (get_or xs i d) xs (i, h, get_or_default xs i (get_or xs i d) d h)

range_more : (a n : ℕ) → range_with_len a (suc n) ≡ range_with_len a n ++ (a + n) ∷ []
range_more a zero = ap (λ k. k ∷ []) (let e : a ≡ a + 0 = omega arith in e)
range_more a (suc n) =
    ap (λ xs. a ∷ xs) (range_more (a + 1) n ∙ ap (λ k. range_with_len (a + 1) n ++ k ∷ []) (let e : a + 1 + n ≡ a + suc n = omega arith in e))

pub filter_more : (p : ℕ → Bool) (n : ℕ) → filter p (range_with_len 0 (n + 1)) ≡ filter p (range_with_len 0 n) ++ (if p n then n ∷ [] else [])
filter_more p n =
    ap (λ k. filter p (range_with_len 0 k)) (add-one n)
    ∙ ap (filter p) (range_more 0 n ∙ ap (λ k. range_with_len 0 n ++ k ∷ []) (let e : 0 + n ≡ n = omega arith in e))
    ∙ filter-append p (range_with_len 0 n) (n ∷ [])

none_apart : IsDistinct nat_eq []
unfolding IsDistinct
none_apart = tt

-- ---- order edges

-- an order edge, with the two transactions that it joins
pub record Joins (ts : List Transaction) (level : Level) (e : Edge) : Type 0 where
  pub t : Transaction
  pub u : Transaction
  pub first : In t ts
  pub second : In u ts
  pub other : (t.invocation == u.invocation) ≡ false
  pub label : Label
  pub among : In label (order_labels level t u)
  pub is : edge t u label ≡ e

module _ (ts : List Transaction) (order : List Before) (kept : AreOfHistory ts) (is : IsOrderOf ts order) where
  pub joins : (level : Level) (e : Edge) → In e (edges_of level order) → Joins ts level e
  joins level e i =
      let there = is.edges level e (Contains_from_in e (edges_of level order) i) in
      let (t, u, first, second, other, among) = comes_from ts (order_labels level) e (in_from_Contains e (all_order_edges level ts) there) in
      let found = in_map (edge t u) e (order_labels level t u) among in
      record { t = t; u = u; first = first; second = second; other = other; label = found.0; among = found.1; is = found.2 }

  pub long : length order ≡ length ts
  long = sym (length-map order (λ (u : Before). (u.process, u.invocation))) ∙ ap length is.each ∙ length-map ts name_of

  -- a predecessor is one of the transactions
  pub predecessor_txn :
      (level : Level) (u : Before) (p : Predecessor) → In u order → In p (predecessors_at level u)
      → (t : Transaction) × In t ts × (t.invocation ≡ p.invocation)
  predecessor_txn Plain u p i j = elim j [ ]
  predecessor_txn Process u p i j =
      let e = process_edge u.process u.invocation p in
      let found = joins Process e (in_each (edges_to Process) e u order i (in_mapped (process_edge u.process u.invocation) p u.in_process j)) in
      (found.t, found.first, ap (λ (d : Edge). d.from) found.is)
  predecessor_txn Realtime u p i j =
      let e = realtime_edge u.invocation p in
      let found = joins Realtime e (in_each (edges_to Realtime) e u order i (in_mapped (realtime_edge u.invocation) p u.in_realtime j)) in
      (found.t, found.first, ap (λ (d : Edge). d.from) found.is)

  once_at : (u : Before) → In u order → NoPredecessorTwice u
  once_at u i =
      let (k, h, at) = Contains_from_in u order i in
      subst NoPredecessorTwice at (is.once k u h)

  predecessors_apart : (level : Level) (u : Before) → In u order → IsDistinct nat_eq (map (λ (p : Predecessor). p.invocation) (predecessors_at level u))
  predecessors_apart Plain u i = none_apart
  predecessors_apart Process u i = (once_at u i).0
  predecessors_apart Realtime u i = (once_at u i).1

  -- ---- places

  module _ (places : List ℕ) (are : ArePlaces ts places) where
    placed : (t : Transaction) → In t ts → (k : ℕ) × (slice_get ts k ≡ Some t) × (t.invocation < length places) × (slice_index places t.invocation ≡ k)
    placed t i =
        let (k, h, at) = Contains_from_in t ts i in
        let get : slice_get ts k ≡ Some t = slice_get-get_or ts k t h ∙ ap Some at in
        let found = are k t get in
        (k, get, slice_get_within places t.invocation k found, get_or_from_slice_get places t.invocation k 0 found)

    pub have_places : (level : Level) (u : Before) → In u order → HavePlaces places (length ts) (predecessors_at level u)
    have_places level u i = all_in (λ (p : Predecessor). (p.invocation < length places) × (place_of places p < length ts)) (predecessors_at level u) (λ p j.
        let (t, among, same) = predecessor_txn level u p i j in
        let (k, get, within, at) = placed t among in (
          subst (λ n. n < length places) same within,
          subst (λ n. n < length ts) (sym at ∙ ap (slice_index places) same) (slice_get_within ts k t get),
        ))

    -- one place, one invocation
    one_place : (level : Level) (u : Before) (p q : Predecessor) → In u order → In p (predecessors_at level u) → In q (predecessors_at level u) → place_of places p ≡ place_of places q → p.invocation ≡ q.invocation
    one_place level u p q i j l same =
        let (t, among, p_is) = predecessor_txn level u p i j in
        let (v, among', q_is) = predecessor_txn level u q i l in
        let (k, get, within, at) = placed t among in
        let (k', get', within', at') = placed v among' in
        let here : k ≡ k' = sym at ∙ ap (slice_index places) p_is ∙ same ∙ ap (slice_index places) (sym q_is) ∙ at' in
        let one : t ≡ v = same_Some t v (sym get ∙ ap (slice_get ts) here ∙ get') in
        sym p_is ∙ ap (λ (x : Transaction). x.invocation) one ∙ q_is

    pub have_own_places : (level : Level) (u : Before) → In u order → HaveOwnPlaces places (predecessors_at level u)
    have_own_places level u i =
        let ps = predecessors_at level u in
        let inv = λ (p : Predecessor). p.invocation in
        IsDistinct-from_apart nat_eq (map (place_of places) ps) (λ a b d h k.
        let in_b : b < length ps = omega (arith, k, length-map ps (place_of places)) in
        let none : Predecessor = record { invocation = 0; completion = 0 } in
        let p = get_or ps a none in
        let q = get_or ps b none in
        let in_a : a < length ps = omega (arith, h, in_b) in
        let apart : (get_or (map inv ps) a 0 == get_or (map inv ps) b 0) ≡ false =
        apart_from_distinct nat_eq (map inv ps) a b 0 (predecessors_apart level u i) h (omega (arith, in_b, length-map ps inv)) in
        ne_eqb (get_or (map (place_of places) ps) a d) (get_or (map (place_of places) ps) b d) (λ same.
        eqb-false (get_or (map inv ps) a 0) (get_or (map inv ps) b 0) apart
        (get_or-map inv ps a none 0 in_a
        ∙ one_place level u p q i (in_at ps a none in_a) (in_at ps b none in_b)
        (sym (get_or-map (place_of places) ps a none d in_a) ∙ same ∙ get_or-map (place_of places) ps b none d in_b)
        ∙ sym (get_or-map inv ps b none 0 in_b))))

    -- the place of a transaction is where its invocation is looked for
    pub places_tell :
        (level : Level) (u : Before) (first : ℕ) → In u order → first < length ts
        → has_place places (predecessors_at level u) first ≡ has_invocation (predecessors_at level u) (txn_at ts first).invocation
    places_tell level u first i h =
        any_alike (λ p. place_of places p == first) (λ (p : Predecessor). p.invocation == (txn_at ts first).invocation) (predecessors_at level u) (λ p j.
        let (t, among, same) = predecessor_txn level u p i j in
        let (k, get, within, at) = placed t among in
        let v = txn_at ts first in
        let none = get_or ts first t in
        let there : slice_get ts first ≡ Some v =
        slice_get-get_or ts first none h ∙ ap Some (txn_read ts first (get_or ts first none) h (get_or_default ts first none (get_or ts first none) h)) in
        let here : place_of places p ≡ k = ap (slice_index places) (sym same) ∙ at in
        same_tests (place_of places p == first) (p.invocation == v.invocation)
        (λ e.
        let one : t ≡ v = same_Some t v (sym get ∙ ap (slice_get ts) (sym here ∙ eqb-true (place_of places p) first e) ∙ there) in
        eq-eqb p.invocation v.invocation (sym same ∙ ap (λ (x : Transaction). x.invocation) one))
        (λ e.
        let (k', h', at') = Contains_from_in t ts among in
        let among_v : In v ts = in_from_Contains v ts (first, h, get_or_from_slice_get ts first v v there) in
        let one : t ≡ v = one_by_invocation ts kept t v among among_v (same ∙ eqb-true p.invocation v.invocation e) in
        let found = are first v there in
        eq-eqb (place_of places p) first
        (ap (slice_index places) (sym same ∙ ap (λ (x : Transaction). x.invocation) one) ∙ get_or_from_slice_get places v.invocation first 0 found)))

  -- ---- successors

  pub next_successors :
      (level : Level) (next : ℕ) (lists more : List (List ℕ))
      → AreFirstSuccessors ts order level next lists
      → length more ≡ length lists
      → ((first : ℕ) → first < length ts → list_at more first ≡ list_at lists first ++ (if is_successor ts order level first next then next ∷ [] else []))
      → AreFirstSuccessors ts order level (next + 1) more
  next_successors level next lists more are same added =
      record {
        count = same ∙ are.count;
        each =
            λ first h.
            added first h ∙ ap (λ xs. xs ++ (if is_successor ts order level first next then next ∷ [] else [])) (are.each first h)
            ∙ sym (filter_more (is_successor ts order level first) next);
      }
