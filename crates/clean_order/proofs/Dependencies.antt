-- Dependency edges by the version that their ends have in common.
use Rattle.std.proofs.Common.{◌≡◌, ◌∙◌, ◌⊎◌, inl, inr, ℕ, ◌<◌, List, None, Contains, IsTrue, refl, sym, ap, subst}
use Rattle.hist_types.specs.Edges.{Label, ww, wr, rw, process, realtime, Edge, edge, dependency_edges}
use Rattle.hist_types.specs.Journal.{KeepsRules}
use Rattle.hist_types.specs.Operations.{Operation}
use Rattle.hist_types.specs.Transactions.{Transaction, Version, transactions_of, is_node, nodes, installs, is_known_to_read}
use Rattle.hist_types.specs.Versions.{pair, nil_of, process_pairs}
use Rattle.hist_types.specs.declared.types.KeyOrder.{KeyOrder}
use Rattle.hist_types.specs.declared.types.KeyOrder.TheVariants.{Basic}
use Rattle.hist_types.proofs.Equality.{same_version}
use Rattle.hist_types.proofs.Members.{In, in_from_Contains, Contains_from_in, in_filter}
use Rattle.history_laws.specs.Dependencies.{Depends, IsVersionPair}
use Rattle.history_laws.proofs.DependencyEdges.{edges_by_versions}
use Rattle.history_laws.proofs.ThinningTimes.{transactions_timed}
use Rattle.history_laws.proofs.VersionMembers.{pairs_by_membership}
use Rattle.history_laws.proofs.WrittenOnce.{installed_or_over, nil_unwritten, one_writer}
use Rattle.clean_order.specs.ByVersion.{IsAnother, Follows, DependsBy, AreJoinedByVersions, IsBelow, IsAbovePredecessors, IsBelowSuccessors, EdgesIntoRise, EdgesOutOfRise, AllEdgesRise, RisesAlong}

-- ---- from edges to versions

module _ (events : List Operation) (kept : KeepsRules events) where
  -- who installs a version is the only one
  one_installs :
      (t u : Transaction) (v : Version)
      → Contains (transactions_of events) t
      → Contains (transactions_of events) u
      → IsTrue (installs t v)
      → IsTrue (installs u v)
      → t ≡ u
  one_installs t u v i j first second =
      one_writer events kept t u i j v ((installed_or_over t v).1 (inl first)) ((installed_or_over u v).1 (inl second))

  -- who installs the later version of a pair follows the earlier one
  follows :
      (u : Transaction) (v w : Version)
      → Contains (transactions_of events) u
      → IsTrue (installs u w)
      → IsVersionPair Basic (transactions_of events) (pair v w)
      → Follows u v
  follows u v w i installed (inl (nil, t, node, wrote)) = (w, installed, ap (λ (x : Version). x.key) nil, inl (ap (λ (x : Version). x.value) nil))
  follows u v w i installed (inr (inl (key, differ, t, j, read, wrote))) =
      let same : t ≡ u = one_installs t u w j i wrote installed in
      (w, installed, key, inr (subst (λ x. IsTrue (is_known_to_read x v)) same read, differ))
  follows u v w i installed (inr (inr step)) = elim (in_from_Contains (pair v w) (process_pairs Basic (transactions_of events)) step) [ ]

  -- nobody installs nil
  reads_installed :
      (t u : Transaction) (v : Version)
      → IsTrue (installs t v)
      → Follows u v
      → IsTrue (is_known_to_read u v)
  reads_installed t u v installed (w, later, key, inl nil) =
      elim (nil_unwritten t v ((installed_or_over t v).1 (inl installed)) nil) [ ]
  reads_installed t u v installed (w, later, key, inr (read, differ)) = read

  pub depends_by :
      (t u : Transaction) (label : Label)
      → Contains (transactions_of events) u
      → Depends Basic (transactions_of events) t u label
      → (v : Version) × DependsBy v t u
  depends_by t u (ww v w) i (paired, installed, later) =
      (v, inl (installed, reads_installed t u v installed (follows u v w i later ((pairs_by_membership Basic (transactions_of events) (pair v w)).0 paired))))
  depends_by t u (wr v) i d = (v, inl d)
  depends_by t u (rw v w) i (paired, read, later) =
      (v, inr (read, follows u v w i later ((pairs_by_membership Basic (transactions_of events) (pair v w)).0 paired)))
  depends_by t u (process p) i d = elim d [ ]
  depends_by t u (realtime c n) i d = elim d [ ]

-- ---- from versions to edges

pub edge_by :
    (keys : KeyOrder) (ts : List Transaction) (v : Version) (t u : Transaction)
    → Contains (nodes ts) t → Contains (nodes ts) u → IsAnother t u → DependsBy v t u
    → (label : Label) × Contains (dependency_edges keys ts) (edge t u label)
edge_by keys ts v t u i j other (inl d) = (wr v, (edges_by_versions keys ts (edge t u (wr v))).1 (t, u, i, j, other, refl, d))
edge_by keys ts v t u i j other (inr (read, (w, installed, key, after))) =
    (rw v w, (edges_by_versions keys ts (edge t u (rw v w))).1 (t, u, i, j, other, refl, ((pairs_by_membership keys ts (pair v w)).1 (paired after), read, installed)))
  where
    paired : (v.value ≡ None) ⊎ (IsTrue (is_known_to_read u v) × ¬ (v ≡ w)) → IsVersionPair keys ts (pair v w)
    paired (inl nil) = inl (same_version v (nil_of w.key) key nil, u, j, installed)
    paired (inr (reads, differ)) =
        inr (inl (key, differ, u, Contains_from_in u ts (in_filter (is_node ts) u ts (in_from_Contains u (nodes ts) j)), reads, installed))

-- ---- the law

-- a node is one of the transactions
pub node_among : (ts : List Transaction) (t : Transaction) → Contains (nodes ts) t → In t ts
node_among ts t i = in_filter (is_node ts) t ts (in_from_Contains t (nodes ts) i)

-- nodes that one index names are one node
pub same_node :
    (events : List Operation) (t u : Transaction)
    → Contains (nodes (transactions_of events)) t
    → Contains (nodes (transactions_of events)) u
    → t.invocation ≡ u.invocation
    → t ≡ u
same_node events t u i j = (transactions_timed events).apart t u (node_among (transactions_of events) t i) (node_among (transactions_of events) u j)

pub joined : (events : List Operation) → KeepsRules events → AreJoinedByVersions events
joined events kept t u i j other = (
  λ (label, c).
      let ts : List Transaction = transactions_of events in
      let (s, r, first, second, apart, is, depends) = (edges_by_versions Basic ts (edge t u label)).0 c in
      let from : s ≡ t = same_node events s t first i (sym (ap (λ (e : Edge). e.from) is)) in
      let to : r ≡ u = same_node events r u second j (sym (ap (λ (e : Edge). e.to) is)) in
      depends_by events kept t u label (Contains_from_in u ts (node_among ts u j))
      (subst (λ x. Depends Basic ts x u label) from (subst (λ x. Depends Basic ts s x label) to depends)),
  λ (v, d). edge_by Basic (transactions_of events) v t u i j other d,
)

-- ---- points

-- the ends of an edge, and the version by which the second one depends on the first one
pub record AreEnds (ts : List Transaction) (e : Edge) (t u : Transaction) (v : Version) : Type 0 where
  pub first : Contains (nodes ts) t
  pub second : Contains (nodes ts) u
  pub other : IsAnother t u
  pub from : e.from ≡ t.invocation
  pub to : e.to ≡ u.invocation
  pub depends : DependsBy v t u

pub ends_by :
    (events : List Operation) (e : Edge)
    → KeepsRules events → Contains (dependency_edges Basic (transactions_of events)) e
    → (t u : Transaction) × (v : Version) × AreEnds (transactions_of events) e t u v
ends_by events e kept c =
    let ts : List Transaction = transactions_of events in
    let (t, u, i, j, other, is, depends) = (edges_by_versions Basic ts e).0 c in
    let (v, d) = depends_by events kept t u e.label (Contains_from_in u ts (node_among ts u j)) depends in (
      t,
      u,
      v,
      record {
        first = i;
        second = j;
        other = other;
        from = ap (λ (x : Edge). x.from) is;
        to = ap (λ (x : Edge). x.to) is;
        depends = d;
      },
    )

pub rises_between :
    (point : ℕ → ℕ) (e : Edge) (m n : ℕ)
    → e.from ≡ m
    → e.to ≡ n
    → point m < point n
    → RisesAlong point e
rises_between point e m n from to rises =
    subst (λ x. point e.from < point x) (sym to) (subst (λ x. point x < point n) (sym from) rises)

below_above :
    (ts : List Transaction) (point : ℕ → ℕ) (t u : Transaction) (v : Version)
    → IsAbovePredecessors ts point u
    → Contains (nodes ts) t
    → DependsBy v t u
    → IsBelow point t u
below_above ts point t u v above i (inl (installed, read)) = above.installers t v i read installed
below_above ts point t u v above i (inr (read, follows)) = above.readers t v i follows read

above_below :
    (ts : List Transaction) (point : ℕ → ℕ) (t u : Transaction) (v : Version)
    → IsBelowSuccessors ts point t
    → Contains (nodes ts) u
    → DependsBy v t u
    → IsBelow point t u
above_below ts point t u v below j (inl (installed, read)) = below.readers u v j installed read
above_below ts point t u v below j (inr (read, follows)) = below.followers u v j read follows

pub rises_into : (events : List Operation) → KeepsRules events → EdgesIntoRise events
rises_into events kept point u j above e c to =
    let ts : List Transaction = transactions_of events in
    let (t, r, v, ends) = ends_by events e kept c in
    let same : r ≡ u = same_node events r u ends.second j (sym ends.to ∙ to) in
    let below = below_above ts point t u v above ends.first (subst (DependsBy v t) same ends.depends) (subst (IsAnother t) same ends.other) in
    rises_between point e t.invocation u.invocation ends.from to below

pub rises_out_of : (events : List Operation) → KeepsRules events → EdgesOutOfRise events
rises_out_of events kept point t i below e c from =
    let ts : List Transaction = transactions_of events in
    let (s, u, v, ends) = ends_by events e kept c in
    let same : s ≡ t = same_node events s t ends.first i (sym ends.from ∙ from) in
    let above = above_below ts point t u v below ends.second (subst (λ x. DependsBy v x u) same ends.depends) (subst (λ x. IsAnother x u) same ends.other) in
    rises_between point e t.invocation u.invocation from ends.to above

pub all_rise : (events : List Operation) → KeepsRules events → AllEdgesRise events
all_rise events kept point above e c =
    let (t, u, v, ends) = ends_by events e kept c in
    rises_into events kept point u ends.second (above u ends.second) e c ends.to
