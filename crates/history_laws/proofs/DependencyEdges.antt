-- Dependency edges by the versions that their ends read and install.
use Rattle.std.proofs.Common.{◌≡◌, true, ◌↔◌, inl, inr, List, ◌++◌, Bool, ◌&&◌, filter, map, Contains, IsTrue, sym, ◌∙◌, ap, subst}
use Rattle.std.proofs.lemmas.Bool.{and_parts, and_from, eqb-false}
use Rattle.hist_types.specs.Edges.{Label, ww, wr, rw, process, realtime, Edge, edge, ww_labels, wr_labels, rw_labels, dependency_labels, dependency_edges}
use Rattle.history_laws.specs.Dependencies.{Depends, IsDependency}
use Rattle.hist_types.specs.Transactions.{Transaction, Version, nodes, installed_by, is_known_to_read, installs}
use Rattle.hist_types.specs.Versions.{VersionPair, pair, version_pairs}
use Rattle.hist_types.specs.declared.types.KeyOrder.{KeyOrder}
use Rattle.hist_types.proofs.Members.{In, in_from_Contains, Contains_from_in, in_front, in_back, in_append, in_mapped, in_map, in_filter, in_filtered, passes_filter}
use Rattle.history_laws.proofs.OrderEdges.{comes_from, goes_to}
use Rattle.history_laws.proofs.Processes.{told_apart}
use Rattle.history_laws.proofs.VersionMembers.{in_from_has, has_from_in}

-- ---- labels

abbrev the_ww : VersionPair → Label
the_ww p = ww p.earlier p.later

abbrev the_rw : VersionPair → Label
the_rw p = rw p.earlier p.later

-- a label of a pair whose versions pass two tests
pair_from :
    (make : VersionPair → Label) (first second : Version → Bool) (pairs : List VersionPair) (l : Label)
    → In l (map make (filter (λ p. first p.earlier && second p.later) pairs))
    → (p : VersionPair) × Contains pairs p × (first p.earlier ≡ true) × (second p.later ≡ true) × (make p ≡ l)
pair_from make first second pairs l i =
    let test : VersionPair → Bool = λ p. first p.earlier && second p.later in
    let (p, among, is) = in_map make l (filter test pairs) i in
    let both = and_parts (first p.earlier) (second p.later) (passes_filter test p pairs among) in
    (p, Contains_from_in p pairs (in_filter test p pairs among), both.0, both.1, is)

pair_to :
    (make : VersionPair → Label) (first second : Version → Bool) (pairs : List VersionPair) (v w : Version)
    → Contains pairs (pair v w)
    → first v ≡ true
    → second w ≡ true
    → In (make (pair v w)) (map make (filter (λ p. first p.earlier && second p.later) pairs))
pair_to make first second pairs v w among is is' =
    let test : VersionPair → Bool = λ p. first p.earlier && second p.later in
    in_mapped make (pair v w) (filter test pairs)
    (in_filtered test (pair v w) pairs (in_from_Contains (pair v w) pairs among) (and_from (first v) (second w) is is'))

ww_from : (keys : KeyOrder) (ts : List Transaction) (t u : Transaction) (l : Label) → In l (ww_labels (version_pairs keys ts) t u) → Depends keys ts t u l
ww_from keys ts t u l i =
    let (p, among, installed, later, is) = pair_from the_ww (installs t) (installs u) (version_pairs keys ts) l i in
    subst (Depends keys ts t u) is (among, installed, later)

wr_from : (keys : KeyOrder) (ts : List Transaction) (t u : Transaction) (l : Label) → In l (wr_labels t u) → Depends keys ts t u l
wr_from keys ts t u l i =
    let found = in_map wr l (filter (is_known_to_read u) (installed_by t)) i in
    subst (Depends keys ts t u) found.2
    (has_from_in found.0 (installed_by t) (in_filter (is_known_to_read u) found.0 (installed_by t) found.1), passes_filter (is_known_to_read u) found.0 (installed_by t) found.1)

rw_from : (keys : KeyOrder) (ts : List Transaction) (t u : Transaction) (l : Label) → In l (rw_labels (version_pairs keys ts) t u) → Depends keys ts t u l
rw_from keys ts t u l i =
    let (p, among, read, later, is) = pair_from the_rw (is_known_to_read t) (installs u) (version_pairs keys ts) l i in
    subst (Depends keys ts t u) is (among, read, later)

pub label_depends : (keys : KeyOrder) (ts : List Transaction) (t u : Transaction) (l : Label) → In l (dependency_labels (version_pairs keys ts) t u) → Depends keys ts t u l
label_depends keys ts t u l i = elim (in_append l (ww_labels (version_pairs keys ts) t u ++ wr_labels t u) (rw_labels (version_pairs keys ts) t u) i) [
  | inl j ↦ elim (in_append l (ww_labels (version_pairs keys ts) t u) (wr_labels t u) j) [
    | inl k ↦ ww_from keys ts t u l k
    | inr k ↦ wr_from keys ts t u l k
  ]
  | inr j ↦ rw_from keys ts t u l j
]

ww_to : (keys : KeyOrder) (ts : List Transaction) (t u : Transaction) (v w : Version) → Depends keys ts t u (ww v w) → In (ww v w) (ww_labels (version_pairs keys ts) t u)
ww_to keys ts t u v w (is, installed, later) = pair_to the_ww (installs t) (installs u) (version_pairs keys ts) v w is installed later

wr_to : (t u : Transaction) (v : Version) → IsTrue (installs t v) → IsTrue (is_known_to_read u v) → In (wr v) (wr_labels t u)
wr_to t u v installed read =
    in_mapped wr v (filter (is_known_to_read u) (installed_by t)) (in_filtered (is_known_to_read u) v (installed_by t) (in_from_has v (installed_by t) installed) read)

rw_to : (keys : KeyOrder) (ts : List Transaction) (t u : Transaction) (v w : Version) → Depends keys ts t u (rw v w) → In (rw v w) (rw_labels (version_pairs keys ts) t u)
rw_to keys ts t u v w (is, read, later) = pair_to the_rw (is_known_to_read t) (installs u) (version_pairs keys ts) v w is read later

depends_label : (keys : KeyOrder) (ts : List Transaction) (t u : Transaction) (l : Label) → Depends keys ts t u l → In l (dependency_labels (version_pairs keys ts) t u)
depends_label keys ts t u (ww v w) d =
    in_front (ww v w) (ww_labels (version_pairs keys ts) t u ++ wr_labels t u) (rw_labels (version_pairs keys ts) t u)
    (in_front (ww v w) (ww_labels (version_pairs keys ts) t u) (wr_labels t u) (ww_to keys ts t u v w d))
depends_label keys ts t u (wr v) d =
    in_front (wr v) (ww_labels (version_pairs keys ts) t u ++ wr_labels t u) (rw_labels (version_pairs keys ts) t u)
    (in_back (wr v) (ww_labels (version_pairs keys ts) t u) (wr_labels t u) (wr_to t u v d.0 d.1))
depends_label keys ts t u (rw v w) d =
    in_back (rw v w) (ww_labels (version_pairs keys ts) t u ++ wr_labels t u) (rw_labels (version_pairs keys ts) t u) (rw_to keys ts t u v w d)
depends_label keys ts t u (process p) d = elim d [ ]
depends_label keys ts t u (realtime c i) d = elim d [ ]

-- ---- the law

pub labels_by_versions :
    (keys : KeyOrder) (ts : List Transaction) (t u : Transaction) (l : Label)
    → Contains (dependency_labels (version_pairs keys ts) t u) l ↔ Depends keys ts t u l
labels_by_versions keys ts t u l = (
  λ c. label_depends keys ts t u l (in_from_Contains l (dependency_labels (version_pairs keys ts) t u) c),
  λ d. Contains_from_in l (dependency_labels (version_pairs keys ts) t u) (depends_label keys ts t u l d),
)

edge_from : (keys : KeyOrder) (ts : List Transaction) (e : Edge) → In e (dependency_edges keys ts) → IsDependency keys ts e
edge_from keys ts e i =
    let (t, u, first, second, apart, among) = comes_from (nodes ts) (dependency_labels (version_pairs keys ts)) e i in
    let found = in_map (edge t u) e (dependency_labels (version_pairs keys ts) t u) among in (
      t,
      u,
      Contains_from_in t (nodes ts) first,
      Contains_from_in u (nodes ts) second,
      eqb-false t.invocation u.invocation apart,
      sym found.2 ∙ ap (λ (d : Edge). edge t u d.label) found.2,
      subst (λ (d : Edge). Depends keys ts t u d.label) found.2 (label_depends keys ts t u found.0 found.1),
    )

edge_to : (keys : KeyOrder) (ts : List Transaction) (e : Edge) → IsDependency keys ts e → In e (dependency_edges keys ts)
edge_to keys ts e (t, u, first, second, apart, is, depends) =
    goes_to (nodes ts) (dependency_labels (version_pairs keys ts)) e (
      t,
      u,
      in_from_Contains t (nodes ts) first,
      in_from_Contains u (nodes ts) second,
      told_apart t.invocation u.invocation apart,
      subst (λ (d : Edge). In d (map (edge t u) (dependency_labels (version_pairs keys ts) t u))) (sym is)
          (in_mapped (edge t u) e.label (dependency_labels (version_pairs keys ts) t u) (depends_label keys ts t u e.label depends)),
    )

pub edges_by_versions : (keys : KeyOrder) (ts : List Transaction) (e : Edge) → Contains (dependency_edges keys ts) e ↔ IsDependency keys ts e
edges_by_versions keys ts e = (
  λ c. edge_from keys ts e (in_from_Contains e (dependency_edges keys ts) c),
  λ d. Contains_from_in e (dependency_edges keys ts) (edge_to keys ts e d),
)
