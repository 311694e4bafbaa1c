-- The list of a graph's edges: dependency edges, and order edges to nodes.
use Rattle.std.proofs.Common.{◌≡◌, ◌↔◌, ◌∙◌, ◌⊎◌, inl, inr, List, [], ◌∷◌, ◌++◌, ◌==◌, ◌||◌, Bool, true, false, not, filter, Contains, refl, sym, ap, subst}
use Rattle.std.specs.List.{list_any}
use Rattle.std.proofs.lemmas.Bool.{false≢true, or_left, or_right, eqb-true, eq-eqb}
use Rattle.history_laws.specs.Dependencies.{Depends}
use Rattle.hist_types.specs.declared.types.KeyOrder.{KeyOrder}
use Rattle.hist_types.specs.Edges.{Label, ww, wr, rw, process, realtime, Edge, edge, dependency_edges, order_labels, all_order_edges, order_edges, edges_at}
use Rattle.hist_types.specs.ThinnedOrder.{thinned_labels, all_thinned_edges, thinned_edges}
use Rattle.history_laws.specs.OrderEdges.{LeadsToOne}
use Rattle.hist_types.specs.Phenomena.{is_ww_label, is_wr_label, is_rw_label, is_ww, is_wr, is_rw, is_order}
use Rattle.hist_types.specs.Transactions.{Transaction, is_node, nodes}
use Rattle.hist_types.specs.declared.types.Level.{Level}
use Rattle.hist_types.specs.declared.types.Level.TheVariants.{Plain, Process, Realtime}
use Rattle.history_laws.proofs.DependencyEdges.{edges_by_versions}
use Rattle.hist_types.proofs.Members.{In, in_from_Contains, Contains_from_in, in_front, in_back, in_append, in_some, in_map, in_filter, in_filtered, passes_filter}
use Rattle.history_laws.proofs.OrderEdges.{Comes, comes_from, goes_to, order_edges-all, order_edges-leave, order_edges-lead, order_edges-between, thinned_edges-order, all_thinned_edges-order}
use Rattle.history_laws.proofs.ThinningPaths.{some_passes}
use Rattle.order_frontier.specs.Predecessors.{Before, process_edge, realtime_edge, edges_to, edges_of, HasOrderEdges, HasThinnedEdges}
use Rattle.dep_edges.specs.Histories.{AreOfHistory}
use Rattle.dep_edges.proofs.Out.{one_by_invocation}
use Rattle.edge_graph.specs.Kinds.{includes, kinds_of}
use Rattle.edge_graph.specs.Parts.{Parts, IsMadeOf, HasEdge, edges_in, leads_to_one}
use Rattle.edge_graph.specs.Walks.{IsEdgeOf}
use Rattle.edge_graph.specs.declared.types.Dependencies.TheVariants.{Ww, Wr, Rw}
use Rattle.edge_graph.proofs.EdgesOut.{IsOrderLabel}

-- ---- second ends

leads_from : (ns : List Transaction) (e : Edge) → leads_to_one ns e ≡ true → LeadsToOne ns e
leads_from ns e h =
    let (u, i, same) = some_passes (λ (u : Transaction). e.to == u.invocation) ns h in
    (u, Contains_from_in u ns i, eqb-true e.to u.invocation same)

leads_to : (ns : List Transaction) (e : Edge) → LeadsToOne ns e → leads_to_one ns e ≡ true
leads_to ns e (u, c, same) = passes (λ (u : Transaction). e.to == u.invocation) ns u (in_from_Contains u ns c) (eq-eqb e.to u.invocation same)
  where
    passes : {X : Type 0} (test : X → Bool) (xs : List X) (x : X) → In x xs → test x ≡ true → list_any test xs ≡ true
    passes test [] x i h = absurd i
    passes test (y ∷ xs) x (inl e) h = or_left (test y) (list_any test xs) (ap test e ∙ h)
    passes test (y ∷ xs) x (inr i) h = or_right (test y) (list_any test xs) (passes test xs x i h)

-- ---- the list

pub listed : (g : Parts) (level : Level) (e : Edge) → Contains (edges_in g level) e ↔ HasEdge g level e
listed g level e =
    let dependencies = dependency_edges g.keys g.txns in
    let order = edges_of level g.order in
    let test = leads_to_one (nodes g.txns) in
    let some = filter test order in (
      λ c.
          elim (in_append e dependencies some (in_from_Contains e (dependencies ++ some) c)) [
            | inl i ↦ inl (Contains_from_in e dependencies i)
            | inr i ↦ inr (Contains_from_in e order (in_filter test e order i), leads_from (nodes g.txns) e (passes_filter test e order i))
          ],
      λ has.
          Contains_from_in e (dependencies ++ some) (elim has [
            | inl c ↦ in_front e dependencies some (in_from_Contains e dependencies c)
            | inr c ↦ in_back e dependencies some (in_filtered test e order (in_from_Contains e order c.0) (leads_to (nodes g.txns) e c.1))
          ]),
    )

no_order : (order : List Before) (e : Edge) → In e (edges_of Plain order) → ⊥
no_order order e i = (in_some (edges_to Plain) e order i).2

pub plain : (g : Parts) (e : Edge) → Contains (edges_in g Plain) e ↔ Contains (dependency_edges g.keys g.txns) e
plain g e = (
  λ c. elim ((listed g Plain e).0 c) [ inl d ↦ d | inr d ↦ absurd (no_order g.order e (in_from_Contains e (edges_of Plain g.order) d.0)) ],
  λ d. (listed g Plain e).1 (inl d),
)

-- ---- labels

order_label_of : (level : Level) (order : List Before) (e : Edge) → In e (edges_of level order) → IsOrderLabel e.label
order_label_of Plain order e i = absurd (no_order order e i)
order_label_of Process order e i =
    let (b, among, j) = in_some (edges_to Process) e order i in
    let (p, there, is) = in_map (process_edge b.process b.invocation) e b.in_process j in
    subst (λ (d : Edge). IsOrderLabel d.label) is tt
order_label_of Realtime order e i =
    let (b, among, j) = in_some (edges_to Realtime) e order i in
    let (p, there, is) = in_map (realtime_edge b.invocation) e b.in_realtime j in
    subst (λ (d : Edge). IsOrderLabel d.label) is tt

abbrev pub is_order_label : Label → Bool
is_order_label label = not (is_ww_label label || is_wr_label label || is_rw_label label)

order_labelled : (label : Label) → IsOrderLabel label → is_order_label label ≡ true
order_labelled (ww earlier later) is = absurd is
order_labelled (wr v) is = absurd is
order_labelled (rw earlier later) is = absurd is
order_labelled (process number) is = refl
order_labelled (realtime completion invocation) is = refl

not_ordered : (keys : KeyOrder) (ts : List Transaction) (t u : Transaction) (label : Label) → Depends keys ts t u label → is_order_label label ≡ false
not_ordered keys ts t u (ww earlier later) d = refl
not_ordered keys ts t u (wr v) d = refl
not_ordered keys ts t u (rw earlier later) d = refl
not_ordered keys ts t u (process number) d = absurd d
not_ordered keys ts t u (realtime completion invocation) d = absurd d

-- an edge that is no order edge is a dependency edge
pub dependency_of : (g : Parts) (level : Level) (e : Edge) → Contains (edges_in g level) e → is_order e ≡ false → Contains (dependency_edges g.keys g.txns) e
dependency_of g level e c other =
    elim ((listed g level e).0 c) [
      | inl d ↦ d
      | inr d ↦
          let label = order_label_of level g.order e (in_from_Contains e (edges_of level g.order) d.0) in
          absurd (false≢true (sym other ∙ order_labelled e.label label))
    ]

pub levels : (g : Parts) (level : Level) (e : Edge) → Contains (edges_in g Plain) e ↔ (Contains (edges_in g level) e × (is_order e ≡ false))
levels g level e = (
  λ c.
      let d = (plain g e).0 c in
      let (t, u, first, second, other, is, depends) = (edges_by_versions g.keys g.txns e).0 d in
      ((listed g level e).1 (inl d), not_ordered g.keys g.txns t u e.label depends),
  λ (c, other). (plain g e).1 (dependency_of g level e c other),
)

-- ---- one kind

module _ (keys : KeyOrder) (ts : List Transaction) (t u : Transaction) where
  of_ww : (label : Label) → Depends keys ts t u label → includes (kinds_of Ww Plain) label ≡ true → is_ww_label label ≡ true
  of_ww (ww earlier later) d k = refl
  of_ww (wr v) d k = absurd (false≢true k)
  of_ww (rw earlier later) d k = absurd (false≢true k)
  of_ww (process number) d k = absurd d
  of_ww (realtime completion invocation) d k = absurd d

  of_wr : (label : Label) → Depends keys ts t u label → includes (kinds_of Wr Plain) label ≡ true → is_wr_label label ≡ true
  of_wr (ww earlier later) d k = absurd (false≢true k)
  of_wr (wr v) d k = refl
  of_wr (rw earlier later) d k = absurd (false≢true k)
  of_wr (process number) d k = absurd d
  of_wr (realtime completion invocation) d k = absurd d

  of_rw : (label : Label) → Depends keys ts t u label → includes (kinds_of Rw Plain) label ≡ true → is_rw_label label ≡ true
  of_rw (ww earlier later) d k = absurd (false≢true k)
  of_rw (wr v) d k = absurd (false≢true k)
  of_rw (rw earlier later) d k = refl
  of_rw (process number) d k = absurd d
  of_rw (realtime completion invocation) d k = absurd d

pub one_ww : (g : Parts) (e : Edge) → IsEdgeOf g (kinds_of Ww Plain) e → is_ww e ≡ true
one_ww g e of =
    let (t, u, first, second, other, is, depends) = (edges_by_versions g.keys g.txns e).0 ((plain g e).0 of.among) in
    of_ww g.keys g.txns t u e.label depends of.kind

pub one_wr : (g : Parts) (e : Edge) → IsEdgeOf g (kinds_of Wr Plain) e → is_wr e ≡ true
one_wr g e of =
    let (t, u, first, second, other, is, depends) = (edges_by_versions g.keys g.txns e).0 ((plain g e).0 of.among) in
    of_wr g.keys g.txns t u e.label depends of.kind

pub one_rw : (g : Parts) (e : Edge) → IsEdgeOf g (kinds_of Rw Plain) e → is_rw e ≡ true
one_rw g e of =
    let (t, u, first, second, other, is, depends) = (edges_by_versions g.keys g.txns e).0 ((plain g e).0 of.among) in
    of_rw g.keys g.txns t u e.label depends of.kind

-- ---- of a history

module _ (keys : KeyOrder) (ts : List Transaction) (kept : AreOfHistory ts) (level : Level) (e : Edge) where
  inside : (t : Transaction) → In t (nodes ts) → In t ts
  inside t i = in_filter (is_node ts) t ts i

  -- an order edge of all pairs that leads to a node
  order_to_node : Contains (all_order_edges level ts) e → LeadsToOne (nodes ts) e → Contains (order_edges level ts) e
  order_to_node c (v, node, to) =
      let from : Comes ts (order_labels level) e = comes_from ts (order_labels level) e (in_from_Contains e (all_order_edges level ts) c) in
      let (t, u, i, j, other, among) = from in
      let (label, labelled, is) = in_map (edge t u) e (order_labels level t u) among in
      let one : v ≡ u = one_by_invocation ts kept v u (inside v (in_from_Contains v (nodes ts) node)) j (sym to ∙ ap (λ (d : Edge). d.to) (sym is)) in
      subst (Contains (order_edges level ts)) is
      (order_edges-between level ts t u label (Contains_from_in t ts i) (subst (Contains (nodes ts)) one node) other (Contains_from_in label (order_labels level t u) labelled))

  -- a thinned one
  thinned_to_node : Contains (all_thinned_edges level ts) e → LeadsToOne (nodes ts) e → Contains (thinned_edges level ts) e
  thinned_to_node c (v, node, to) =
      let from : Comes ts (thinned_labels level ts) e = comes_from ts (thinned_labels level ts) e (in_from_Contains e (all_thinned_edges level ts) c) in
      let (t, u, i, j, other, among) = from in
      let (label, labelled, is) = in_map (edge t u) e (thinned_labels level ts t u) among in
      let second = in_from_Contains v (nodes ts) node in
      let one : v ≡ u = one_by_invocation ts kept v u (inside v second) j (sym to ∙ ap (λ (d : Edge). d.to) (sym is)) in
      let (s, first, leaves) = order_edges-leave level ts e (order_to_node (all_thinned_edges-order level ts e c) (v, node, to)) in
      let first' = in_from_Contains s (nodes ts) first in
      let other_one : s ≡ t = one_by_invocation ts kept s t (inside s first') i (sym leaves ∙ ap (λ (d : Edge). d.from) (sym is)) in
      Contains_from_in e (thinned_edges level ts)
      (goes_to (nodes ts) (thinned_labels level ts) e (
        t,
        u,
        subst (λ x. In x (nodes ts)) other_one first',
        subst (λ x. In x (nodes ts)) one second,
        other,
        among,
      ))

  thinned-all : Contains (thinned_edges level ts) e → Contains (all_thinned_edges level ts) e
  thinned-all c =
      let from : Comes (nodes ts) (thinned_labels level ts) e = comes_from (nodes ts) (thinned_labels level ts) e (in_from_Contains e (thinned_edges level ts) c) in
      let (t, u, i, j, other, among) = from in
      Contains_from_in e (all_thinned_edges level ts) (goes_to ts (thinned_labels level ts) e (t, u, inside t i, inside u j, other, among))

  module _ (order : List Before) (g : Parts) (made : IsMadeOf keys ts order g) where
    has_edge : HasEdge g level e ↔ (Contains (dependency_edges keys ts) e ⊎ (Contains (edges_of level order) e × LeadsToOne (nodes ts) e))
    has_edge =
        let whole = λ (ks : KeyOrder) (us : List Transaction) (o : List Before). Contains (dependency_edges ks us) e ⊎ (Contains (edges_of level o) e × LeadsToOne (nodes us) e) in (
          λ has. subst (λ o. whole keys ts o) made.order (subst (λ us. whole keys us g.order) made.txns (subst (λ ks. whole ks g.txns g.order) made.keys_are has)),
          λ has. subst (λ ks. whole ks g.txns g.order) (sym made.keys_are) (subst (λ us. whole keys us g.order) (sym made.txns) (subst (λ o. whole keys ts o) (sym made.order) has)),
        )

    -- with any list of exactly the order edges between nodes
    with_order : (es : List Edge) → ((Contains (edges_of level order) e × LeadsToOne (nodes ts) e) ↔ Contains es e) → Contains (edges_in g level) e ↔ Contains (dependency_edges keys ts ++ es) e
    with_order es exactly =
        let dependencies = dependency_edges keys ts in (
          λ c.
              Contains_from_in e (dependencies ++ es) (elim (has_edge.0 ((listed g level e).0 c)) [
                | inl d ↦ in_front e dependencies es (in_from_Contains e dependencies d)
                | inr d ↦ in_back e dependencies es (in_from_Contains e es (exactly.0 d))
              ]),
          λ c.
              (listed g level e).1 (has_edge.1 (elim (in_append e dependencies es (in_from_Contains e (dependencies ++ es) c)) [
                | inl i ↦ inl (Contains_from_in e dependencies i)
                | inr i ↦ inr (exactly.1 (Contains_from_in e es i))
              ])),
        )

    pub of_all_pairs : HasOrderEdges ts order → Contains (edges_in g level) e ↔ Contains (edges_at keys level ts) e
    of_all_pairs has = with_order (order_edges level ts) (
      λ (c, leads). order_to_node ((has level e).0 c) leads,
      λ c. ((has level e).1 (order_edges-all level ts e c), order_edges-lead level ts e c),
    )

    pub of_thinned : HasThinnedEdges ts order → Contains (edges_in g level) e ↔ Contains (dependency_edges keys ts ++ thinned_edges level ts) e
    of_thinned has = with_order (thinned_edges level ts) (
      λ (c, leads). thinned_to_node ((has level e).0 c) leads,
      λ c. ((has level e).1 (thinned-all c), order_edges-lead level ts e (thinned_edges-order level ts e c)),
    )
