-- Order edges by the lists of successors.
use Rattle.std.proofs.Common.{◌≡◌, ◌∙◌, ◌<◌, ◌≤◌, ◌+◌, inl, inr, ℕ, zero, suc, List, [], ◌∷◌, length, get_or, map, Bool, true, false, ◌&&◌, ◌==◌, if◌then◌else◌, Option, Some, None, unwrap_or, Contains, refl, sym, ap, subst, arith}
use Rattle.std.specs.List.{range_with_len}
use Rattle.std.proofs.lemmas.Bool.{false≢true, and_parts, and_from, eqb-true, eq-eqb, cases_eq}
use Rattle.std.proofs.lemmas.List.{get_or-map, get_or_past}
use Rattle.std.proofs.lemmas.Option.{slice_get-get_or, get_or_from_slice_get}
use Rattle.hist_types.specs.Edges.{Label, process, realtime, Edge, edge, realtime_label, is_ok_before, same_process}
use Rattle.history_laws.specs.OrderEdges.{LeadsToOne}
use Rattle.hist_types.specs.Transactions.{Transaction, is_node, nodes}
use Rattle.hist_types.specs.declared.types.Level.{Level}
use Rattle.hist_types.specs.declared.types.Level.TheVariants.{Plain, Process, Realtime}
use Rattle.hist_types.proofs.Members.{In, in_from_Contains, Contains_from_in, in_each, in_some, in_mapped, in_map, in_filter, in_filtered, passes_filter}
use Rattle.order_frontier.specs.Predecessors.{Before, before_at, process_edge, realtime_edge, edges_to, edges_of, name_of}
use Rattle.order_frontier.specs.declared.types.Predecessor.{Predecessor}
use Rattle.dep_edges.specs.Histories.{AreOfHistory}
use Rattle.dep_edges.specs.Tables.{txn_at}
use Rattle.dep_edges.proofs.Apart.{apart_filter}
use Rattle.dep_edges.proofs.Out.{one_by_invocation}
use Rattle.history_laws.proofs.WrittenOnce.{AreApart}
use Rattle.history_laws.proofs.ThinningPaths.{any_passes, some_passes}
use Rattle.edge_graph.specs.Made.{order_labels_to, order_edges_to}
use Rattle.edge_graph.specs.Parts.{IsOrderOf}
use Rattle.edge_graph.specs.Successors.{predecessors_at, has_invocation, is_successor, Turned, list_at, lists_at, AreSuccessors, AreTurned}
use Rattle.edge_graph.proofs.Ordered.{Joins, joins, long, in_at}
use Rattle.edge_graph.proofs.Txns.{txn_there, txn_in}

-- ---- edges of predecessors

-- (at plain there are no predecessors)
abbrev level_edge : Level → Before → Predecessor → Edge
level_edge Plain b p = process_edge b.process b.invocation p
level_edge Process b p = process_edge b.process b.invocation p
level_edge Realtime b p = realtime_edge b.invocation p

edges_to_is : (level : Level) (b : Before) → edges_to level b ≡ map (level_edge level b) (predecessors_at level b)
edges_to_is Plain b = refl
edges_to_is Process b = refl
edges_to_is Realtime b = refl

edge_ends : (level : Level) (b : Before) (p : Predecessor) → ((level_edge level b p).from ≡ p.invocation) × ((level_edge level b p).to ≡ b.invocation)
edge_ends Plain b p = (refl, refl)
edge_ends Process b p = (refl, refl)
edge_ends Realtime b p = (refl, refl)

abbrev edge_by : ℕ → ℕ → Label → Edge
edge_by from to label = record { from = from; to = to; label = label }

process_member : (test : Bool) (number : ℕ) (l : Label) → In l (if test then process number ∷ [] else []) → process number ≡ l
process_member true number l (inl e) = e
process_member true number l (inr i) = absurd i
process_member false number l i = absurd i

realtime_member : (test : Bool) (o : Option ℕ) (i : ℕ) (l : Label) → In l (if test then realtime_label o i else []) → realtime_label o i ≡ l ∷ []
realtime_member true None i l among = absurd among
realtime_member true (Some c) i l (inl e) = ap (λ (l : Label). l ∷ []) e
realtime_member true (Some c) i l (inr among) = absurd among
realtime_member false o i l among = absurd among

pub before_there : (order : List Before) (place : ℕ) → place < length order → In (before_at order place) order
before_there order place h =
    let none : Before = record { process = 0; invocation = 0; in_process = []; in_realtime = [] } in
    subst (λ b. In b order) (sym (ap (λ o. unwrap_or o none) (slice_get-get_or order place none h))) (in_at order place none h)

before_by : (order : List Before) (b : Before) → In b order → (place : ℕ) × (place < length order) × (before_at order place ≡ b)
before_by order b i =
    let none : Before = record { process = 0; invocation = 0; in_process = []; in_realtime = [] } in
    let (place, h, at) = Contains_from_in b order i in
    (place, h, ap (λ o. unwrap_or o none) (slice_get-get_or order place b h ∙ ap Some at))

range_above : (a n k : ℕ) → In k (range_with_len a n) → a ≤ k
range_above a zero k i = absurd i
range_above a (suc n) k (inl e) = omega (arith, e)
range_above a (suc n) k (inr i) = omega (arith, range_above (a + 1) n k i)

range_apart : (a n : ℕ) → AreApart (range_with_len a n)
range_apart a zero = tt
range_apart a (suc n) = ((λ i. absurd (omega (arith, range_above (a + 1) n a i))), range_apart (a + 1) n)

module _ (ts : List Transaction) (order : List Before) (kept : AreOfHistory ts) (is : IsOrderOf ts order) where
  in_order : (place : ℕ) → place < length ts → place < length order
  in_order place h = omega (arith, h, long ts order kept is)

  -- the order names the transaction at each place
  named : (place : ℕ) → place < length ts → ((before_at order place).process ≡ (txn_at ts place).process) × ((before_at order place).invocation ≡ (txn_at ts place).invocation)
  named place h =
      let none : Before = record { process = 0; invocation = 0; in_process = []; in_realtime = [] } in
      let name : Before → ℕ × ℕ = λ b. (b.process, b.invocation) in
      let zeros : ℕ × ℕ = (0, 0) in
      let t = txn_at ts place in
      let b = before_at order place in
      let k = in_order place h in
      let read : get_or order place none ≡ b = sym (ap (λ o. unwrap_or o none) (slice_get-get_or order place none k)) in
      let both : name b ≡ name_of t =
      ap name (sym read) ∙ sym (get_or-map name order place none zeros k) ∙ ap (λ xs. get_or xs place zeros) is.each
      ∙ get_or-map name_of ts place t zeros h ∙ ap name_of (get_or_from_slice_get ts place t t (txn_there ts place h)) in
      (ap (λ p. p.0) both, ap (λ p. p.1) both)

  edge_there : (level : Level) (place : ℕ) (p : Predecessor) → place < length ts → In p (predecessors_at level (before_at order place)) → In (level_edge level (before_at order place) p) (edges_of level order)
  edge_there level place p h i =
      let b = before_at order place in
      in_each (edges_to level) (level_edge level b p) b order (before_there order place (in_order place h))
      (subst (In (level_edge level b p)) (sym (edges_to_is level b)) (in_mapped (level_edge level b) p (predecessors_at level b) i))

  -- the one edge of a predecessor
  same_edge :
      (level : Level) (place : ℕ) (p : Predecessor) (t : Transaction) → place < length ts → In p (predecessors_at level (before_at order place)) → In t ts → t.invocation ≡ p.invocation
      → order_edges_to level t (txn_at ts place) ≡ level_edge level (before_at order place) p ∷ []
  same_edge Plain place p t h i j same = absurd i
  same_edge Process place p t h i j same =
      let b = before_at order place in
      let e = level_edge Process b p in
      let found : Joins ts Process e = joins ts order kept is Process e (edge_there Process place p h i) in
      let one : found.t ≡ t = one_by_invocation ts kept found.t t found.first j (ap (λ (d : Edge). d.from) found.is ∙ sym same) in
      let label : process t.process ≡ process b.process =
      ap (λ (x : Transaction). process x.process) (sym one)
      ∙ process_member (is_ok_before found.t found.u && same_process found.t found.u) found.t.process found.label found.among ∙ ap (λ (d : Edge). d.label) found.is in
      ap (λ (d : Edge). d ∷ [])
      (ap (λ n. edge_by n (txn_at ts place).invocation (process t.process)) same ∙ ap (λ n. edge_by p.invocation n (process t.process)) (sym (named place h).1)
      ∙ ap (edge_by p.invocation b.invocation) label)
  same_edge Realtime place p t h i j same =
      let b = before_at order place in
      let e = level_edge Realtime b p in
      let u = txn_at ts place in
      let found : Joins ts Realtime e = joins ts order kept is Realtime e (edge_there Realtime place p h i) in
      let one : found.t ≡ t = one_by_invocation ts kept found.t t found.first j (ap (λ (d : Edge). d.from) found.is ∙ sym same) in
      let to : found.u.invocation ≡ u.invocation = ap (λ (d : Edge). d.to) found.is ∙ (named place h).1 in
      let labels : realtime_label t.completion u.invocation ≡ realtime p.completion b.invocation ∷ [] =
      ap (λ (x : Transaction). realtime_label x.completion u.invocation) (sym one) ∙ ap (realtime_label found.t.completion) (sym to)
      ∙ realtime_member (is_ok_before found.t found.u) found.t.completion found.u.invocation found.label found.among
      ∙ ap (λ (l : Label). l ∷ []) (ap (λ (d : Edge). d.label) found.is) in
      ap (map (edge t u)) labels
      ∙ ap (λ (d : Edge). d ∷ [])
      (ap (λ n. edge_by n u.invocation (realtime p.completion b.invocation)) same ∙ ap (λ n. edge_by p.invocation n (realtime p.completion b.invocation)) (sym (named place h).1))

  -- ---- successors

  predecessor_of_successor :
      (level : Level) (place next : ℕ) → is_successor ts order level place next ≡ true
      → (is_node ts (txn_at ts next) ≡ true) × (p : Predecessor) × In p (predecessors_at level (before_at order next)) × ((txn_at ts place).invocation ≡ p.invocation)
  predecessor_of_successor level place next e =
      let ps = predecessors_at level (before_at order next) in
      let inv = (txn_at ts place).invocation in
      let (node, some) = and_parts (is_node ts (txn_at ts next)) (has_invocation ps inv) e in
      let (p, i, same) = some_passes (λ (p : Predecessor). p.invocation == inv) ps some in
      (node, p, i, sym (eqb-true p.invocation inv same))

  -- the order edge to a successor
  pub order_from :
      (level : Level) (place next : ℕ) → place < length ts → next < length ts → is_successor ts order level place next ≡ true
      → (label : Label) × In label (order_labels_to level (txn_at ts place) (txn_at ts next).invocation)
      × Contains (edges_of level order) (edge (txn_at ts place) (txn_at ts next) label)
      × LeadsToOne (nodes ts) (edge (txn_at ts place) (txn_at ts next) label)
      × (order_edges_to level (txn_at ts place) (txn_at ts next) ≡ edge (txn_at ts place) (txn_at ts next) label ∷ [])
  order_from level place next h k e =
      let t = txn_at ts place in
      let u = txn_at ts next in
      let (node, p, i, same) = predecessor_of_successor level place next e in
      let d = level_edge level (before_at order next) p in
      let whole = same_edge level next p t k i (txn_in ts place h) same in
      let (label, among, there) = in_map (edge t u) d (order_labels_to level t u.invocation) (subst (In d) (sym whole) (inl refl)) in (
        label,
        among,
        Contains_from_in (edge t u label) (edges_of level order) (subst (λ x. In x (edges_of level order)) (sym there) (edge_there level next p k i)),
        (u, Contains_from_in u (nodes ts) (in_filtered (is_node ts) u ts (txn_in ts next k) node), refl),
        whole ∙ ap (λ (x : Edge). x ∷ []) (sym there),
      )

  -- the successor that an order edge leads to
  pub order_to :
      (level : Level) (place : ℕ) (e : Edge) → place < length ts → Contains (edges_of level order) e → LeadsToOne (nodes ts) e → e.from ≡ (txn_at ts place).invocation
      → (next : ℕ) × (next < length ts) × (e.to ≡ (txn_at ts next).invocation) × (is_successor ts order level place next ≡ true) × In e (order_edges_to level (txn_at ts place) (txn_at ts next))
  order_to level place e h c (v, among, to) from =
      let t = txn_at ts place in
      let (b, i, j) = in_some (edges_to level) e order (in_from_Contains e (edges_of level order) c) in
      let (p, l, same) = in_map (level_edge level b) e (predecessors_at level b) (subst (In e) (edges_to_is level b) j) in
      let (next, k, at) = before_by order b i in
      let k' : next < length ts = omega (arith, k, long ts order kept is) in
      let u = txn_at ts next in
      let p_there : In p (predecessors_at level (before_at order next)) = subst (λ x. In p (predecessors_at level x)) (sym at) l in
      let p_is : t.invocation ≡ p.invocation = sym from ∙ ap (λ (d : Edge). d.from) (sym same) ∙ (edge_ends level b p).0 in
      let to_u : e.to ≡ u.invocation =
      ap (λ (d : Edge). d.to) (sym same) ∙ (edge_ends level b p).1 ∙ ap (λ (x : Before). x.invocation) (sym at) ∙ (named next k').1 in
      let v_in = in_from_Contains v (nodes ts) among in
      let one : v ≡ u = one_by_invocation ts kept v u (in_filter (is_node ts) v ts v_in) (txn_in ts next k') (sym to ∙ to_u) in
      let node : is_node ts u ≡ true = subst (λ x. is_node ts x ≡ true) one (passes_filter (is_node ts) v ts v_in) in (
        next,
        k',
        to_u,
        and_from (is_node ts u) (has_invocation (predecessors_at level (before_at order next)) t.invocation) node
            (any_passes (λ (q : Predecessor). q.invocation == t.invocation) p (predecessors_at level (before_at order next)) p_there (eq-eqb p.invocation t.invocation (sym p_is))),
        subst (In e) (sym (same_edge level next p t k' p_there (txn_in ts place h) p_is))
            (inl (ap (λ x. level_edge level x p) at ∙ same)),
      )

  -- ---- lists of successors

  pub listed_from : (level : Level) (lists : List (List ℕ)) (place next : ℕ) → AreSuccessors ts order level lists → place < length ts → In next (list_at lists place) → (next < length ts) × (is_successor ts order level place next ≡ true)
  listed_from level lists place next are h i =
      let test = is_successor ts order level place in
      let j = subst (In next) (are.each place h) i in
      (omega (arith, in_range 0 (length ts) next (in_filter test next (range_with_len 0 (length ts)) j)), passes_filter test next (range_with_len 0 (length ts)) j)
    where
      in_range : (a n k : ℕ) → In k (range_with_len a n) → k < a + n
      in_range a zero k i = absurd i
      in_range a (suc n) k (inl e) = omega (arith, e)
      in_range a (suc n) k (inr i) = omega (arith, in_range (a + 1) n k i)

  pub listed_to : (level : Level) (lists : List (List ℕ)) (place next : ℕ) → AreSuccessors ts order level lists → place < length ts → next < length ts → is_successor ts order level place next ≡ true → In next (list_at lists place)
  listed_to level lists place next are h k e =
      subst (In next) (sym (are.each place h)) (in_filtered (is_successor ts order level place) next (range_with_len 0 (length ts)) (range_has 0 (length ts) next (omega arith) (omega (arith, k))) e)
    where
      range_has : (a n k : ℕ) → a ≤ k → k < a + n → In k (range_with_len a n)
      range_has a zero k low high = absurd (omega (arith, low, high))
      range_has a (suc n) k low high = elim (cases_eq a k) [
        | inl e ↦ inl e
        | inr other ↦ inr (range_has (a + 1) n k (omega (arith, low, other)) (omega (arith, high)))
      ]

  module _ (turned : Turned) (turned_are : AreTurned ts order turned) where
    pub later_from : (level : Level) (place next : ℕ) → place < length ts → In next (list_at (lists_at level turned) place) → (next < length ts) × (is_successor ts order level place next ≡ true)
    later_from Plain place next h i = absurd i
    later_from Process place next h i = listed_from Process turned.in_process place next turned_are.process h i
    later_from Realtime place next h i = listed_from Realtime turned.in_realtime place next turned_are.realtime h i

    pub later_to : (level : Level) (place next : ℕ) → place < length ts → next < length ts → is_successor ts order level place next ≡ true → In next (list_at (lists_at level turned) place)
    later_to Plain place next h k e = absurd (false≢true (and_parts (is_node ts (txn_at ts next)) false e).1)
    later_to Process place next h k e = listed_to Process turned.in_process place next turned_are.process h k e
    later_to Realtime place next h k e = listed_to Realtime turned.in_realtime place next turned_are.realtime h k e

    pub later_apart : (level : Level) (place : ℕ) → place < length ts → AreApart (list_at (lists_at level turned) place)
    later_apart Plain place h = tt
    later_apart Process place h = subst AreApart (sym (turned_are.process.each place h)) (apart_filter (is_successor ts order Process place) (range_with_len 0 (length ts)) (range_apart 0 (length ts)))
    later_apart Realtime place h = subst AreApart (sym (turned_are.realtime.each place h)) (apart_filter (is_successor ts order Realtime place) (range_with_len 0 (length ts)) (range_apart 0 (length ts)))

    -- no list goes past the transactions
    pub none_past : (level : Level) (place : ℕ) → length ts ≤ place → list_at (lists_at level turned) place ≡ []
    none_past Plain place h = refl
    none_past Process place h = get_or_past turned.in_process place [] (omega (arith, h, turned_are.process.count))
    none_past Realtime place h = get_or_past turned.in_realtime place [] (omega (arith, h, turned_are.realtime.count))
