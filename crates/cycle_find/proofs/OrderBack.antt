-- A needed edge whose second end comes before its first closes a walk with one dependency edge, and only such an edge does.
use Rattle.std.proofs.Common.{◌≡◌, ◌∙◌, ◌<◌, ◌-◌, inl, inr, ℕ, List, [], ◌∷◌, length, true, false, not, ◌⊎◌, Contains, refl, sym, ap, subst, arith}
use Rattle.std.specs.List.{AllByRecursion}
use Rattle.std.specs.Prelude.{slice_index}
use Rattle.std.proofs.lemmas.Bool.{false≢true, cases_lt}
use Rattle.std.proofs.lemmas.List.Elements.{All-weaker, recursion_from_All, All-from_recursion}
use Rattle.hist_types.specs.Edges.{Label, ww, wr, rw, process, realtime, Edge, dependency_labels}
use Rattle.hist_types.specs.Phenomena.{is_order}
use Rattle.hist_types.specs.ThinnedOrder.{is_ordered}
use Rattle.hist_types.specs.Transactions.{Transaction, is_node, nodes, transactions_of}
use Rattle.hist_types.specs.Versions.{version_pairs}
use Rattle.hist_types.specs.declared.types.Level.{Level}
use Rattle.hist_types.specs.declared.types.Level.TheVariants.{Plain}
use Rattle.hist_types.specs.declared.types.Phenomenon.{Phenomenon}
use Rattle.hist_types.specs.declared.types.Phenomenon.TheVariants.{G0, G1c, GSingle, G2Item}
use Rattle.hist_types.proofs.Members.{In, in_from_Contains, in_filter}
use Rattle.history_laws.specs.WaysBack.{is_needed}
use Rattle.history_laws.proofs.Fewest.{some_dependency}
use Rattle.history_laws.proofs.ThinningPaths.{ended_before, ordered_in_time, ends_of, AreNodes, are_nodes, nodes_included}
use Rattle.history_laws.proofs.ThinningWalks.{Uncounted, count_yes, count_none, within_contains}
use Rattle.history_laws.proofs.ThinningWitnesses.{is_dependency, needed_dependency}
use Rattle.dep_edges.specs.Histories.{AreOfHistory}
use Rattle.dep_edges.specs.Tables.{IsPlace, txn_at}
use Rattle.dep_edges.proofs.Out.{one_by_invocation}
use Rattle.edge_graph.specs.Kinds.{includes, kinds_of}
use Rattle.edge_graph.specs.Parts.{Parts, edges_in}
use Rattle.edge_graph.specs.Vertices.{RwByVersions}
use Rattle.edge_graph.specs.Walks.{IsEdgeBetween, HasEdgeBetween, IsWayByVersion, HasDirectArc, HasWayByVersion, AreEdgesBetween, AreEdgesAlong, HasWalkBetween}
use Rattle.edge_graph.specs.declared.types.Dependencies.{Dependencies}
use Rattle.edge_graph.specs.declared.types.Dependencies.TheVariants.{Rw}
use Rattle.edge_graph.specs.declared.types.Dependencies.TheVariants as dependencies
use Rattle.edge_graph.specs.declared.types.Kinds.{Kinds}
use Rattle.edge_graph.proofs.EdgesIn.{plain}
use Rattle.edge_graph.proofs.EdgeArcs.{arc_of_ww, arc_of_wr, way_of_rw, walk_over}
use Rattle.edge_graph.proofs.Txns.{txn_in, earlier}
use Rattle.cycle_find.specs.Dependencies.{needed, way_back}
use Rattle.cycle_find.specs.Found.{ShowsByFewest, NeedsMoreThan, IsThinnedAt}
use Rattle.cycle_find.specs.OneDependency.{order_kinds, IsBefore, NoneClosing, NoneClosingBy}
use Rattle.cycle_find.specs.Tasks.{Task, needed_kinds, back_kinds}
use Rattle.cycle_find.proofs.Closing.{needed_kind, shows}
use Rattle.cycle_find.proofs.ClosedByOrder.{invoked_before, IsClosedByOrder, closed_by_order, order_path}

-- ---- labels

order_label : (level : Level) (from to : ℕ) (label : Label) → includes (kinds_of dependencies.None level) label ≡ true → is_order (record { from = from; to = to; label = label }) ≡ true
order_label level from to (ww a b) is = absurd (false≢true is)
order_label level from to (wr a) is = absurd (false≢true is)
order_label level from to (rw a b) is = absurd (false≢true is)
order_label level from to (process n) is = refl
order_label level from to (realtime m n) is = refl

order_in_any : (d : Dependencies) (level : Level) (label : Label) → includes (kinds_of dependencies.None level) label ≡ true → includes (kinds_of d level) label ≡ true
order_in_any d level (ww a b) is = absurd (false≢true is)
order_in_any d level (wr a) is = absurd (false≢true is)
order_in_any d level (rw a b) is = absurd (false≢true is)
order_in_any d level (process n) is = refl
order_in_any d level (realtime m n) is = refl

uncounted_included : (kinds : Kinds) (label : Label) → Uncounted label → includes kinds label ≡ true
uncounted_included kinds (ww a b) is = absurd (false≢true (sym is.no_ww))
uncounted_included kinds (wr a) is = absurd (false≢true (sym is.no_wr))
uncounted_included kinds (rw a b) is = absurd (false≢true (sym is.no_rw))
uncounted_included kinds (process n) is = refl
uncounted_included kinds (realtime m n) is = refl

-- ---- an edge and order edges back

order_counts : (level : Level) (es : List Edge) → AllByRecursion (λ (e : Edge). includes (kinds_of dependencies.None level) e.label ≡ true) es → AllByRecursion (λ e. is_dependency e ≡ false) es
order_counts level [] all = tt
order_counts level (e ∷ es) all = (ap not (order_label level e.from e.to e.label all.0), order_counts level es all.1)

pub shows_by_one :
    (task : Task) (from to : ℕ) (e : Edge) (es : List Edge)
    → IsEdgeBetween task.graph (needed_kinds task) from to e
    → AreEdgesBetween task.graph (order_kinds task) to from es
    → ShowsByFewest task.phenomenon (edges_in task.graph task.level) (e ∷ es)
shows_by_one task from to e es is are =
    let g = task.graph in
    let level = task.level in
    let of_order = recursion_from_All (λ (d : Edge). includes (order_kinds task) d.label ≡ true) es are.of_kinds in
    let back : AreEdgesBetween g (back_kinds task) to from es = record {
      leads = are.leads;
      among = are.among;
      of_kinds =
          All-weaker (λ (d : Edge). includes (order_kinds task) d.label ≡ true) (λ (d : Edge). includes (back_kinds task) d.label ≡ true)
          (λ d h. order_in_any (way_back task.phenomenon) level d.label h) es are.of_kinds;
    } in
    let one = count_yes is_dependency e es (ap not (needed_dependency task.phenomenon e (needed_kind g task.phenomenon e is.edge))) in
    let none = count_none is_dependency es (order_counts level es of_order) in
    record {
      shows = shows task from to e es is back;
      fewest = λ other is. omega (arith, one, none, some_dependency task.phenomenon (edges_in g level) other is);
    }

pub shows_by_one_along :
    (task : Task) (from to : ℕ) (path : List ℕ) (e : Edge) (es : List Edge)
    → slice_index path 0 ≡ to
    → slice_index path (length path - 1) ≡ from
    → IsEdgeBetween task.graph (needed_kinds task) from to e
    → AreEdgesAlong task.graph (order_kinds task) path es
    → ShowsByFewest task.phenomenon (edges_in task.graph task.level) (e ∷ es)
shows_by_one_along task from to path e es begins ends is are =
    shows_by_one task from to e es is
    (subst (λ n. AreEdgesBetween task.graph (order_kinds task) n from es) begins
    (subst (λ n. AreEdgesBetween task.graph (order_kinds task) (slice_index path 0) n es) ends are))

-- ---- places

module _ (ts : List Transaction) (kept : AreOfHistory ts) where
  pub all_nodes : AreNodes ts (nodes ts)
  all_nodes = subst (λ ts. AreNodes ts (nodes ts)) (sym kept.2) (are_nodes kept.0 (nodes (transactions_of kept.0)) (nodes_included (transactions_of kept.0)))

  -- who completed before another one was invoked has the lower place
  pub lower_place : (level : Level) (p q : ℕ) → p < length ts → q < length ts → is_ordered level (txn_at ts p) (txn_at ts q) ≡ true → p < q
  lower_place level p q h k ordered =
      let low : (txn_at ts p).invocation < (txn_at ts q).invocation = invoked_before ts all_nodes level (txn_at ts p) (txn_at ts q) (txn_in ts p h) ordered in
      elim (cases_lt p q) [
        | inl lower ↦ lower
        | inr up ↦ elim (cases_lt q p) [
          | inl higher ↦ absurd (omega (arith, low, earlier ts kept q p higher h))
          | inr even ↦
              let same : p ≡ q = omega (arith, up, even) in
              absurd (omega (arith, low, ap (λ n. (txn_at ts n).invocation) same))
        ]
      ]

-- ---- the arcs of a needed edge

-- a needed edge has an arc of its own, or goes by way of a version
pub has_arcs :
    (g : Parts) (phenomenon : Phenomenon) (level : Level) → RwByVersions g → (e : Edge) → Contains (edges_in g level) e → is_needed phenomenon e ≡ true
    → ((needed phenomenon ≡ Rw → ⊥) × HasDirectArc g (needed phenomenon) e) ⊎ ((needed phenomenon ≡ Rw) × HasWayByVersion g Rw e)
has_arcs g G0 level by_versions e among is = inl (λ same. cc, arc_of_ww g level e among is)
has_arcs g G1c level by_versions e among is = inl (λ same. cc, arc_of_wr g level e among is)
has_arcs g GSingle level by_versions e among is = inr (refl, way_of_rw g by_versions level e among is)
has_arcs g G2Item level by_versions e among is = inr (refl, way_of_rw g by_versions level e among is)

module _ (task : Task) (kept : AreOfHistory task.graph.txns) (by_versions : RwByVersions task.graph) where
  abbrev g : Parts
  g = task.graph

  abbrev ts : List Transaction
  ts = task.graph.txns

  abbrev es : List Edge
  es = edges_in task.graph task.level

  abbrev IsClosed : Edge → Transaction → Transaction → Type 0
  IsClosed e t u = IsClosedByOrder task.phenomenon task.level ts es e t u

  -- ---- none

  comes_before : (e : Edge) (t u : Transaction) (from to : ℕ) → IsClosed e t u → IsPlace ts from → IsPlace ts to → e.from ≡ (txn_at ts from).invocation → e.to ≡ (txn_at ts to).invocation → IsBefore task to from
  comes_before e t u from to is h k begins ends =
      let first : txn_at ts from ≡ t = one_by_invocation ts kept (txn_at ts from) t (txn_in ts from h) is.first (sym begins ∙ is.begins) in
      let last : txn_at ts to ≡ u = one_by_invocation ts kept (txn_at ts to) u (txn_in ts to k) is.last (sym ends ∙ is.ends) in
      subst (λ z. is_ordered task.level z (txn_at ts from) ≡ true) (sym last) (subst (λ z. is_ordered task.level u z ≡ true) (sym first) is.back)

  no_direct : (e : Edge) (t u : Transaction) → NoneClosing task → IsClosed e t u → HasDirectArc g (needed task.phenomenon) e → ⊥
  no_direct e t u none is (from, to, ends, direct) = none from direct.first to direct (comes_before e t u from to is ends.first ends.last ends.begins ends.ends)

  no_way : (e : Edge) (t u : Transaction) → needed task.phenomenon ≡ Rw → ((version : ℕ) → NoneClosingBy task version) → IsClosed e t u → HasWayByVersion g Rw e → ⊥
  no_way e t u by_rw none is (from, version, to, ends, way) =
      none version from to (subst (λ d. IsWayByVersion g (kinds_of d Plain) from version to) (sym by_rw) way) (comes_before e t u from to is ends.first ends.last ends.begins ends.ends)

  needs_more : ((e : Edge) (t u : Transaction) → IsClosed e t u → ⊥) → IsThinnedAt g task.level → NeedsMoreThan 1 task.phenomenon es
  needs_more none thinned walk is = elim (cases_lt 1 _) [
    | inl more ↦ more
    | inr few ↦
        let (e, t, u, closed) = closed_by_order g.keys ts task.level es (all_nodes ts kept) thinned task.phenomenon walk is few in
        absurd (none e t u closed)
  ]

  pub none_at_plain : task.level ≡ Plain → IsThinnedAt g task.level → NeedsMoreThan 1 task.phenomenon es
  none_at_plain same = needs_more (λ e t u is. false≢true (subst (λ level. is_ordered level u t ≡ true) same is.back))

  pub none_directly : (needed task.phenomenon ≡ Rw → ⊥) → NoneClosing task → IsThinnedAt g task.level → NeedsMoreThan 1 task.phenomenon es
  none_directly other none = needs_more (λ e t u is.
      elim (has_arcs g task.phenomenon task.level by_versions e is.among is.needs) [
        | inl (direct, arc) ↦ no_direct e t u none is arc
        | inr (same, way) ↦ other same
      ])

  pub none_by_versions : needed task.phenomenon ≡ Rw → ((version : ℕ) → NoneClosingBy task version) → IsThinnedAt g task.level → NeedsMoreThan 1 task.phenomenon es
  none_by_versions by_rw none = needs_more (λ e t u is.
      elim (has_arcs g task.phenomenon task.level by_versions e is.among is.needs) [
        | inl (other, arc) ↦ other by_rw
        | inr (same, way) ↦ no_way e t u by_rw none is way
      ])

  -- ---- a path back

  of_kinds : (path : List Edge) → AllByRecursion (λ (e : Edge). Uncounted e.label) path → AllByRecursion (λ (e : Edge). includes (order_kinds task) e.label ≡ true) path
  of_kinds [] all = tt
  of_kinds (e ∷ path) all = (uncounted_included (order_kinds task) e.label all.0, of_kinds path all.1)

  -- a needed edge leaves a node
  leaves_node : (from to : ℕ) → HasEdgeBetween g (needed_kinds task) from to → In (txn_at ts from) (nodes ts)
  leaves_node from to (e, is) =
      let dependency = in_from_Contains e _ ((plain g e).0 is.edge.among) in
      let (t, u, label, ends) = ends_of (nodes ts) (dependency_labels (version_pairs g.keys ts)) e dependency in
      let same : t ≡ txn_at ts from =
      one_by_invocation ts kept t (txn_at ts from) (in_filter (is_node ts) t ts ends.first) (txn_in ts from is.leads.first) (ap (λ (d : Edge). d.from) (sym ends.is) ∙ is.leads.begins) in
      subst (λ z. In z (nodes ts)) same ends.first

  comes_from_node : (first second : ℕ) → IsPlace ts first → IsBefore task first second → In (txn_at ts first) (nodes ts)
  comes_from_node first second h before =
      let t = txn_at ts first in
      let (c, ended) = ended_before t (txn_at ts second) (ordered_in_time task.level t (txn_at ts second) before) in
      (all_nodes ts kept).ok t (txn_in ts first h) ended.ok

  pub path_back : IsThinnedAt g task.level → (from to : ℕ) → IsPlace ts from → IsPlace ts to → HasEdgeBetween g (needed_kinds task) from to → IsBefore task to from → HasWalkBetween g (order_kinds task) to from
  path_back thinned from to h k edge before =
      let (path, is) = order_path g.keys ts task.level es (all_nodes ts kept) thinned (txn_at ts to) (txn_at ts from) (comes_from_node to from k before) (leaves_node from to edge) before in
      walk_over g kept by_versions (order_kinds task) to from k h path (record {
        leads = is.leads;
        among = within_contains es path is.within;
        of_kinds = All-from_recursion (λ (e : Edge). includes (order_kinds task) e.label ≡ true) path (of_kinds path is.uncounted);
      })
