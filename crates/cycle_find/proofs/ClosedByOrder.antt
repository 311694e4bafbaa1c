-- A walk with one dependency edge goes back along the order, so the edge's second end comes before its first; and where one node
-- comes before another, a path of thinned order edges leads from the one to the other.
use Rattle.std.proofs.Common.{◌≡◌, ◌↔◌, ◌∙◌, ◌<◌, ◌≤◌, inl, inr, ℕ, List, [], ◌∷◌, ◌++◌, true, false, Contains, sym, ap, subst, arith}
use Rattle.std.specs.List.{AllByRecursion, list_all}
use Rattle.std.proofs.lemmas.Bool.{false≢true, not-false, and_parts}
use Rattle.hist_types.specs.Edges.{Edge, edge, dependency_labels, order_labels, dependency_edges}
use Rattle.hist_types.specs.Phenomena.{Leads, Shows, is_ww, is_wr, is_rw, is_order}
use Rattle.hist_types.specs.ThinnedOrder.{is_ordered, thinned_edges}
use Rattle.hist_types.specs.Transactions.{Transaction, is_node, nodes}
use Rattle.hist_types.specs.Versions.{version_pairs}
use Rattle.hist_types.specs.Witness.{dependencies_in}
use Rattle.hist_types.specs.declared.types.KeyOrder.{KeyOrder}
use Rattle.hist_types.specs.declared.types.Level.{Level}
use Rattle.hist_types.specs.declared.types.Phenomenon.{Phenomenon}
use Rattle.hist_types.proofs.Members.{In, in_from_Contains, Contains_from_in, in_back, in_append, in_filter}
use Rattle.history_laws.specs.Paths.{order_edges_between}
use Rattle.history_laws.specs.WaysBack.{is_needed}
use Rattle.history_laws.proofs.Fewest.{few_by_one}
use Rattle.history_laws.proofs.ThinningPaths.{ended_before, ordered_in_time, ordered_from_label, label_from_ordered, edge_between, ends_of, thinned_in_order, AreNodes, Way, thinned_way_of, order_edge_of}
use Rattle.history_laws.proofs.ThinningWalks.{Uncounted, uncounted_edge, all_uncounted, within_in}
use Rattle.history_laws.proofs.ThinningWitnesses.{is_dependency, dependency_edge, needed_dependency, none_of_three}

-- ---- the order in time

-- who comes before another one was invoked before it
pub invoked_before : (ts : List Transaction) → AreNodes ts (nodes ts) → (level : Level) (t u : Transaction) → In t ts → is_ordered level t u ≡ true → t.invocation < u.invocation
invoked_before ts are level t u i ordered =
    let (c, ended) = ended_before t u (ordered_in_time level t u ordered) in
    let begins : t.invocation < c = are.timed.later t c i ended.ended in
    let ends : c < u.invocation = ended.before in
    omega (arith, begins, ends)

-- ---- a walk with one dependency edge

-- the edge is needed, and its second end comes before its first
pub record IsClosedByOrder (phenomenon : Phenomenon) (level : Level) (ts : List Transaction) (es : List Edge) (e : Edge) (t u : Transaction) : Type 0 where
  pub among : Contains es e
  pub needs : is_needed phenomenon e ≡ true
  pub first : In t ts
  pub last : In u ts
  pub begins : e.from ≡ t.invocation
  pub ends : e.to ≡ u.invocation
  pub back : is_ordered level u t ≡ true

module _ (keys : KeyOrder) (ts : List Transaction) (level : Level) (es : List Edge) (are : AreNodes ts (nodes ts)) (thinned : (e : Edge) → Contains es e ↔ Contains (dependency_edges keys ts ++ thinned_edges level ts) e) where
  abbrev deps : List Edge
  deps = dependency_edges keys ts

  abbrev order : List Edge
  order = order_edges_between level (nodes ts)

  abbrev thin : List Edge
  thin = thinned_edges level ts

  in_all : (t : Transaction) → In t (nodes ts) → In t ts
  in_all t i = in_filter (is_node ts) t ts i

  -- an edge is an order edge between nodes, or a dependency edge
  of_order : (e : Edge) → In e es → is_order e ≡ true → In e order
  of_order e i is =
      elim (in_append e deps thin (in_from_Contains e (deps ++ thin) ((thinned e).0 (Contains_from_in e es i)))) [
        | inl j ↦ absurd (false≢true (sym (dependency_edge keys ts e j) ∙ is))
        | inr j ↦ thinned_in_order level ts (nodes ts) e j
      ]

  of_dependencies : (e : Edge) → In e es → is_order e ≡ false → In e deps
  of_dependencies e i is =
      elim (in_append e deps thin (in_from_Contains e (deps ++ thin) ((thinned e).0 (Contains_from_in e es i)))) [
        | inl j ↦ j
        | inr j ↦
            let none : Uncounted e.label = uncounted_edge level (nodes ts) e (thinned_in_order level ts (nodes ts) e j) in
            absurd (false≢true (sym is ∙ none_of_three (is_ww e) (is_wr e) (is_rw e) none.no_ww none.no_wr none.no_rw))
      ]

  all_of_order : (walk : List Edge) → AllByRecursion (λ e. In e es) walk → list_all is_order walk ≡ true → AllByRecursion (λ e. In e order) walk
  all_of_order [] all is = tt
  all_of_order (e ∷ walk) all is =
      let both = and_parts (is_order e) (list_all is_order walk) is in
      (of_order e all.0 both.0, all_of_order walk all.1 both.1)

  -- what a way of order edges leads from comes before what it leads to
  joined :
      (from to : ℕ) (t u : Transaction) (rest : List Edge) → In t ts → In u ts → from ≡ t.invocation → to ≡ u.invocation → ¬ (from ≡ to)
      → Leads from rest to → AllByRecursion (λ e. In e order) rest → is_ordered level t u ≡ true
  joined from to t u [] i j begins ends apart leads all = absurd (apart leads)
  joined from to t u (e ∷ rest) i j begins ends apart leads all =
      let way : Way order from to (e ∷ rest) = record { some = λ empty. cc; leads = leads; within = all } in
      let (f, among, start, end) = order_edge_of level ts (nodes ts) from to (e ∷ rest) are way in
      let (x, y, label, is) = ends_of (nodes ts) (order_labels level) f among in
      let one : x ≡ t = are.timed.apart x t (in_all x is.first) i (ap (λ (d : Edge). d.from) (sym is.is) ∙ start ∙ begins) in
      let two : y ≡ u = are.timed.apart y u (in_all y is.second) j (ap (λ (d : Edge). d.to) (sym is.is) ∙ end ∙ ends) in
      subst (λ z. is_ordered level t z ≡ true) two (subst (λ z. is_ordered level z y ≡ true) one (ordered_from_label level x y label is.labelled))

  pub closed_by_order :
      (phenomenon : Phenomenon) (walk : List Edge) → Shows phenomenon es walk → dependencies_in walk ≤ 1
      → (e : Edge) × (t u : Transaction) × IsClosedByOrder phenomenon level ts es e t u
  closed_by_order phenomenon walk is few =
      let (e, among, needs, rest, back, fewer) = (few_by_one phenomenon es 0).0 (walk, is, few) in
      let i : In e es = in_from_Contains e es among in
      let unordered = needed_dependency phenomenon e needs in
      let none : dependencies_in rest ≡ 0 = omega (arith, fewer) in
      let by_order = all_uncounted is_order is_dependency is_dependency (λ d f g. not-false (is_order d) f) rest none none in
      let ordered = all_of_order rest (within_in es rest back.within) by_order in
      let (t, u, label, ends) = ends_of (nodes ts) (dependency_labels (version_pairs keys ts)) e (of_dependencies e i unordered) in
      let begins : e.from ≡ t.invocation = ap (λ (d : Edge). d.from) ends.is in
      let finishes : e.to ≡ u.invocation = ap (λ (d : Edge). d.to) ends.is in
      let first = in_all t ends.first in
      let last = in_all u ends.second in (
        e,
        t,
        u,
        record {
          among = among;
          needs = needs;
          first = first;
          last = last;
          begins = begins;
          ends = finishes;
          back = joined e.to e.from u t rest last first finishes begins (λ same. ends.other (sym begins ∙ sym same ∙ finishes)) back.leads ordered;
        },
      )

  -- ---- the order as a path

  pub record IsOrderPath (from to : ℕ) (path : List Edge) : Type 0 where
    pub leads : Leads from path to
    pub within : AllByRecursion (λ e. In e es) path
    pub uncounted : AllByRecursion (λ (e : Edge). Uncounted e.label) path

  in_graph : (path : List Edge) → AllByRecursion (λ e. In e thin) path → AllByRecursion (λ e. In e es) path
  in_graph [] all = tt
  in_graph (e ∷ path) all = (in_from_Contains e es ((thinned e).1 (Contains_from_in e (deps ++ thin) (in_back e deps thin all.0))), in_graph path all.1)

  none_counts : (path : List Edge) → AllByRecursion (λ e. In e thin) path → AllByRecursion (λ (e : Edge). Uncounted e.label) path
  none_counts [] all = tt
  none_counts (e ∷ path) all = (uncounted_edge level (nodes ts) e (thinned_in_order level ts (nodes ts) e all.0), none_counts path all.1)

  pub order_path :
      (t u : Transaction) → In t (nodes ts) → In u (nodes ts) → is_ordered level t u ≡ true
      → (path : List Edge) × IsOrderPath t.invocation u.invocation path
  order_path t u i j ordered =
      let low : t.invocation < u.invocation = invoked_before ts are level t u (in_all t i) ordered in
      let other : ¬ (t.invocation ≡ u.invocation) = λ same. omega (arith, low, same) in
      let (label, labelled) = label_from_ordered level t u ordered in
      let (path, way) = thinned_way_of level ts (nodes ts) are (edge t u label) (edge_between (nodes ts) (order_labels level) t u label i j other labelled) in
      (path, record { leads = way.leads; within = in_graph path way.within; uncounted = none_counts path way.within })
