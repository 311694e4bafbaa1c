-- What becomes of nodes, version pairs and edges as transactions grow: they stay, where no aborted read appears.
use Rattle.std.proofs.Common.{◌≡◌, inl, inr, List, [], ◌∷◌, if◌then◌else◌, None, Bool, true, false, not, ◌&&◌, ◌==◌, map, Contains, IsTrue, refl, sym, ◌∙◌, ap, subst}
use Rattle.std.specs.List.{list_any}
use Rattle.std.proofs.lemmas.Bool.{and_parts, and_from, cases_Bool, or_cases, or_left, or_right}
use Rattle.hist_types.specs.Edges.{Label, ww, wr, rw, process, realtime, Edge, edge, dependency_edges, completed_before, same_process, process_labels, realtime_label, realtime_labels, order_labels, order_edges, edges_at}
use Rattle.hist_types.specs.Journal.{Write, writes_of}
use Rattle.hist_types.specs.Phenomena.{BadRead, bad_read, aborted_reads}
use Rattle.hist_types.specs.Transactions.{Open, Transaction, Version, version_of, has_version, is_ok, is_failed, external_reads, last_writes, is_known_to_read, installs, was_read, is_node, nodes}
use Rattle.hist_types.specs.Versions.{VersionPair, version_pairs}
use Rattle.hist_types.specs.declared.types.Level.{Level}
use Rattle.hist_types.specs.declared.types.Level.TheVariants.{Plain, Process, Realtime}
use Rattle.hist_types.specs.declared.types.KeyOrder.{KeyOrder}
use Rattle.hist_types.proofs.Members.{In, in_from_Contains, Contains_from_in, in_front, in_back, in_append, in_mapped, in_map, in_filter, in_filtered, passes_filter}
use Rattle.history_laws.specs.Dependencies.{IsVersionPair, Depends}
use Rattle.history_laws.proofs.BadReads.{aborted_by_writer}
use Rattle.history_laws.proofs.DependencyEdges.{edges_by_versions}
use Rattle.history_laws.proofs.OrderEdges.{comes_from, goes_to}
use Rattle.history_laws.proofs.ThinningPaths.{some_passes, any_passes}
use Rattle.history_laws.proofs.VersionMembers.{has_from_in, pairs_by_membership}
use Rattle.report_laws.proofs.Growing.{Grows, GrowsInto, AllGrow, ok_stays, ok_is_there}
use Rattle.report_laws.proofs.GrowingSteps.{ProcessPairsStay}

-- ---- what a transaction installs and reads

pub installs_stay : (t later : Transaction) → Grows t later → (v : Version) → IsTrue (installs t v) → IsTrue (installs later v)
installs_stay t later g v = subst (λ ws. has_version (map version_of (last_writes ws)) v ≡ true) g.writes

pub reads_stay : (t later : Transaction) → Grows t later → (v : Version) → IsTrue (is_known_to_read t v) → IsTrue (is_known_to_read later v)
reads_stay t later g v e =
    subst (λ u. is_known_to_read u v ≡ true) (ok_stays t later g (and_parts (is_ok t) (has_version (external_reads t) v) e).0) e

-- ---- nodes

-- each node grows into a later node
abbrev pub NodesGrow : (ts laters : List Transaction) → Type 0
NodesGrow ts laters = (t : Transaction) → In t (nodes ts) → GrowsInto (nodes laters) t

-- some transaction reads the version that the write makes
abbrev reads_of : List Transaction → Write → Bool
reads_of ts w = list_any (λ reader. is_known_to_read reader (version_of w)) ts

-- a read of a failed transaction's write is an aborted read
read_of_failed :
    (ts : List Transaction) (t : Transaction)
    → In t ts
    → is_failed t ≡ true
    → was_read ts t ≡ true
    → (r : BadRead) × Contains (aborted_reads ts) r
read_of_failed ts t i failed was =
    let (w, wrote, read) = some_passes (reads_of ts) (writes_of t.mops) was in
    let (reader, among, known) = some_passes (λ reader. is_known_to_read reader (version_of w)) ts read in
    let r : BadRead = bad_read reader (version_of w) t in (
      r,
      (aborted_by_writer ts r).1 (
        reader,
        t,
        Contains_from_in reader ts among,
        Contains_from_in t ts i,
        refl,
        known,
        failed,
        has_from_in (version_of w) (map version_of (writes_of t.mops)) (in_mapped version_of w (writes_of t.mops) wrote),
      ),
    )

was_read_stays :
    (ts laters : List Transaction)
    → AllGrow ts laters
    → (t later : Transaction)
    → Grows t later
    → was_read ts t ≡ true
    → was_read laters later ≡ true
was_read_stays ts laters grow t later g was =
    let (w, wrote, read) = some_passes (reads_of ts) (writes_of t.mops) was in
    let (reader, among, known) = some_passes (λ reader. is_known_to_read reader (version_of w)) ts read in
    let ok = (and_parts (is_ok reader) (has_version (external_reads reader) (version_of w)) known).0 in
    any_passes (reads_of laters) w (writes_of later.mops) (subst (In w) g.writes wrote)
    (any_passes (λ reader. is_known_to_read reader (version_of w)) reader laters (ok_is_there ts laters grow reader among ok) known)

node_stays :
    (ts laters : List Transaction)
    → AllGrow ts laters
    → ((r : BadRead) → ¬ Contains (aborted_reads laters) r)
    → (t later : Transaction)
    → In later laters
    → Grows t later
    → is_node ts t ≡ true
    → is_node laters later ≡ true
node_stays ts laters grow none t later j g node =
    elim (or_cases (is_ok t) (not (is_failed t) && was_read ts t) node) [
      | inl ok ↦ or_left (is_ok later) (not (is_failed later) && was_read laters later) (subst (λ u. is_ok u ≡ true) (ok_stays t later g ok) ok)
      | inr unfailed ↦ (
          let was : was_read laters later ≡ true = was_read_stays ts laters grow t later g (and_parts (not (is_failed t)) (was_read ts t) unfailed).1 in
          elim (cases_Bool (is_failed later)) [
            | inl failed ↦ (let bad = read_of_failed laters later j failed was in elim (none bad.0 bad.1) [ ])
            | inr e ↦
                or_right (is_ok later) (not (is_failed later) && was_read laters later)
                (and_from (not (is_failed later)) (was_read laters later) (ap not e) was)
          ])
    ]

pub nodes_grow :
    (ts laters : List Transaction)
    → AllGrow ts laters
    → ((r : BadRead) → ¬ Contains (aborted_reads laters) r)
    → NodesGrow ts laters
nodes_grow ts laters grow none t i =
    let (later, j, g) = grow t (in_filter (is_node ts) t ts i) in
    (later, in_filtered (is_node laters) later laters j (node_stays ts laters grow none t later j g (passes_filter (is_node ts) t ts i)), g)

-- ---- version pairs

-- the version pairs of the first ones are pairs of the later ones
abbrev pub PairsStay : (keys : KeyOrder) (ts laters : List Transaction) → Type 0
PairsStay keys ts laters = (p : VersionPair) → Contains (version_pairs keys ts) p → Contains (version_pairs keys laters) p

pub pairs_stay :
    (keys : KeyOrder) (ts laters : List Transaction)
    → AllGrow ts laters
    → NodesGrow ts laters
    → ProcessPairsStay keys ts laters
    → PairsStay keys ts laters
pairs_stay keys ts laters grow nodes_too steps p c = (pairs_by_membership keys laters p).1 (is_pair ((pairs_by_membership keys ts p).0 c))
  where
    is_pair : IsVersionPair keys ts p → IsVersionPair keys laters p
    is_pair (inl (nil, t, node, installed)) =
        let (later, j, g) = nodes_too t (in_from_Contains t (nodes ts) node) in
        inl (nil, later, Contains_from_in later (nodes laters) j, installs_stay t later g p.later installed)
    is_pair (inr (inl (one_key, differ, t, among, read, installed))) =
        let (later, j, g) = grow t (in_from_Contains t ts among) in
        inr (inl (one_key, differ, later, Contains_from_in later laters j, reads_stay t later g p.earlier read, installs_stay t later g p.later installed))
    is_pair (inr (inr step)) = inr (inr (steps p step))

-- ---- dependency edges

depends_stays :
    (keys : KeyOrder) (ts laters : List Transaction)
    → PairsStay keys ts laters
    → (t later_t u later_u : Transaction)
    → Grows t later_t
    → Grows u later_u
    → (label : Label)
    → Depends keys ts t u label
    → Depends keys laters later_t later_u label
depends_stays keys ts laters pairs t later_t u later_u g h (ww v w) (known, first, second) =
    (pairs (record { earlier = v; later = w }) known, installs_stay t later_t g v first, installs_stay u later_u h w second)
depends_stays keys ts laters pairs t later_t u later_u g h (wr v) (first, second) = (installs_stay t later_t g v first, reads_stay u later_u h v second)
depends_stays keys ts laters pairs t later_t u later_u g h (rw v w) (known, first, second) =
    (pairs (record { earlier = v; later = w }) known, reads_stay t later_t g v first, installs_stay u later_u h w second)
depends_stays keys ts laters pairs t later_t u later_u g h (process p) d = elim d [ ]
depends_stays keys ts laters pairs t later_t u later_u g h (realtime c i) d = elim d [ ]

same_edge : (t later_t u later_u : Transaction) (label : Label) → Grows t later_t → Grows u later_u → edge t u label ≡ edge later_t later_u label
same_edge t later_t u later_u label g h =
    ap (λ from. record { from = from; to = u.invocation; label = label }) g.invocation
    ∙ ap (λ to. record { from = later_t.invocation; to = to; label = label }) h.invocation

dependency_edges_stay :
    (keys : KeyOrder) (ts laters : List Transaction)
    → NodesGrow ts laters
    → PairsStay keys ts laters
    → (e : Edge)
    → Contains (dependency_edges keys ts) e
    → Contains (dependency_edges keys laters) e
dependency_edges_stay keys ts laters nodes_too pairs e c =
    let (t, u, first, second, apart, is, depends) = (edges_by_versions keys ts e).0 c in
    let (later_t, i, g) = nodes_too t (in_from_Contains t (nodes ts) first) in
    let (later_u, j, h) = nodes_too u (in_from_Contains u (nodes ts) second) in
    (edges_by_versions keys laters e).1 (
      later_t,
      later_u,
      Contains_from_in later_t (nodes laters) i,
      Contains_from_in later_u (nodes laters) j,
      λ same. apart (g.invocation ∙ same ∙ sym h.invocation),
      is ∙ same_edge t later_t u later_u e.label g h,
      depends_stays keys ts laters pairs t later_t u later_u g h e.label depends,
    )

-- ---- order edges

-- the first end of an order edge is ok
ordered_ok : (level : Level) (t u : Transaction) (label : Label) → In label (order_labels level t u) → is_ok t ≡ true
ordered_ok level t u label i = elim (cases_Bool (is_ok t)) [
  | inl ok ↦ ok
  | inr e ↦ elim (no_label level e i) [ ]
]
  where
    no_label : (level : Level) → is_ok t ≡ false → In label (order_labels level t u) → ⊥
    no_label Plain e i = i
    no_label Process e i =
        subst (λ b. In label (if (b && completed_before t u) && same_process t u then process t.process ∷ [] else [])) e i
    no_label Realtime e i = subst (λ b. In label (if b && completed_before t u then realtime_label t.completion u.invocation else [])) e i

-- of the second end only the process and the invocation matter
same_labels : (level : Level) (t u later : Transaction) → Grows u later → order_labels level t u ≡ order_labels level t later
same_labels Plain t u later g = refl
same_labels Process t u later g =
    ap (λ n. process_labels t (record { process = u.process; invocation = n; completion = None; status = Open; mops = [] })) g.invocation
    ∙ ap (λ p. process_labels t (record { process = p; invocation = later.invocation; completion = None; status = Open; mops = [] })) g.process
same_labels Realtime t u later g =
    ap (λ n. realtime_labels t (record { process = u.process; invocation = n; completion = None; status = Open; mops = [] })) g.invocation

label_stays :
    (level : Level) (t later_t u later_u : Transaction) (label : Label)
    → Grows t later_t
    → Grows u later_u
    → In label (order_labels level t u)
    → In label (order_labels level later_t later_u)
label_stays level t later_t u later_u label g h i =
    subst (λ x. In label (order_labels level x later_u)) (ok_stays t later_t g (ordered_ok level t u label i))
    (subst (In label) (same_labels level t u later_u h) i)

order_edges_stay :
    (level : Level) (ts laters : List Transaction)
    → NodesGrow ts laters
    → (e : Edge)
    → Contains (order_edges level ts) e
    → Contains (order_edges level laters) e
order_edges_stay level ts laters nodes_too e c =
    let (t, u, first, second, apart, among) = comes_from (nodes ts) (order_labels level) e (in_from_Contains e (order_edges level ts) c) in
    let (later_t, i, g) = nodes_too t first in
    let (later_u, j, h) = nodes_too u second in
    let (label, labelled, is) = in_map (edge t u) e (order_labels level t u) among in
    let later : In (edge later_t later_u label) (map (edge later_t later_u) (order_labels level later_t later_u)) =
    in_mapped (edge later_t later_u) label (order_labels level later_t later_u) (label_stays level t later_t u later_u label g h labelled) in
    Contains_from_in e (order_edges level laters) (goes_to (nodes laters) (order_labels level) e (
      later_t,
      later_u,
      i,
      j,
      subst (λ n. (later_t.invocation == n) ≡ false) h.invocation (subst (λ n. (n == u.invocation) ≡ false) g.invocation apart),
      subst (λ d. In d (map (edge later_t later_u) (order_labels level later_t later_u))) (sym (same_edge t later_t u later_u label g h) ∙ is) later,
    ))

-- ---- all edges of a level

pub edges_stay :
    (keys : KeyOrder) (level : Level) (ts laters : List Transaction)
    → NodesGrow ts laters
    → PairsStay keys ts laters
    → (e : Edge)
    → Contains (edges_at keys level ts) e
    → Contains (edges_at keys level laters) e
edges_stay keys level ts laters nodes_too pairs e c =
    Contains_from_in e (edges_at keys level laters) (elim (in_append e (dependency_edges keys ts) (order_edges level ts) (in_from_Contains e (edges_at keys level ts) c)) [
      | inl i ↦
          in_front e (dependency_edges keys laters) (order_edges level laters)
          (in_from_Contains e (dependency_edges keys laters) (dependency_edges_stay keys ts laters nodes_too pairs e (Contains_from_in e (dependency_edges keys ts) i)))
      | inr i ↦
          in_back e (dependency_edges keys laters) (order_edges level laters)
          (in_from_Contains e (order_edges level laters) (order_edges_stay level ts laters nodes_too e (Contains_from_in e (order_edges level ts) i)))
    ])
