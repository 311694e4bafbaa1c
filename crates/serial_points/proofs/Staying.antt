-- Points stay after an event that adds no node and no read: every edge was there before.
use Rattle.std.proofs.Common.{◌≡◌, ◌⊎◌, inl, inr, ℕ, ◌≤◌, List, [], ◌∷◌, ◌++◌, length, true, false, not, ◌&&◌, map, filter, append-nil, None, Contains, IsTrue, refl, sym, ◌∙◌, ap, subst}
use Rattle.std.specs.List.{list_any}
use Rattle.std.proofs.lemmas.Bool.{false≢true, and_parts, and_from, or_cases, or_left, or_right, not-true}
use Rattle.std.proofs.lemmas.List.Elements.{filter-append}
use Rattle.hist_types.specs.Edges.{Label, ww, wr, rw, process, realtime, Edge, dependency_edges}
use Rattle.hist_types.specs.Journal.{Write, writes_of, is_invoke}
use Rattle.hist_types.specs.Operations.{Mop, Operation}
use Rattle.hist_types.specs.Transactions.{Transaction, Version, version_of, transaction_by, transactions_of, has_version, mops_by, status_by, is_ok_status, is_ok, is_failed, last_writes, installs, is_known_to_read, was_read, is_node, nodes}
use Rattle.hist_types.specs.Versions.{VersionPair, pair, process_pairs, version_pairs}
use Rattle.hist_types.specs.declared.types.KeyOrder.{KeyOrder}
use Rattle.hist_types.specs.declared.types.OpKind.{OpKind}
use Rattle.hist_types.specs.declared.types.OpKind.TheVariants as kinds
use Rattle.hist_types.proofs.Members.{In, in_from_Contains, Contains_from_in, in_append, in_mapped, in_filtered, passes_filter}
use Rattle.history_laws.specs.Dependencies.{Depends, IsVersionPair}
use Rattle.history_laws.proofs.DependencyEdges.{edges_by_versions}
use Rattle.history_laws.proofs.ThinningPaths.{some_passes, any_passes}
use Rattle.history_laws.proofs.VersionMembers.{has_from_in, pairs_by_membership}
use Rattle.txn_pairs.specs.Places.{completed}
use Rattle.clean_order.specs.Points.{point_at, ArePoints}
use Rattle.clean_order.proofs.CleanReads.{reader_is_ok}
use Rattle.clean_order.proofs.Dependencies.{node_among}
use Rattle.clean_order.proofs.Points.{by_points, point_begun, point_ended, points_rise}
use Rattle.serial_points.specs.NextPoints.{PointsStay, WritesNothingRead}
use Rattle.serial_points.proofs.NextPoints.{ok_is_node}
use Rattle.serial_points.proofs.OneEvent.{invoked, completes, open_not_failed}
use Rattle.serial_points.proofs.OkSteps.{same_process_pairs}

-- what a later transaction was before: the same, or one that hadn't failed and isn't ok now, with the same writes
pub record Was (t later : Transaction) : Type 0 where
  pub invocation : t.invocation ≡ later.invocation
  pub writes : writes_of t.mops ≡ writes_of later.mops
  pub same : (t ≡ later) ⊎ ((is_ok later ≡ false) × (is_failed t ≡ false))

was_itself : (t : Transaction) → Was t t
was_itself t = record { invocation = refl; writes = refl; same = inl refl }

was_ok : (t later : Transaction) → Was t later → is_ok later ≡ true → t ≡ later
was_ok t later was ok = elim was.same [
  | inl same ↦ same
  | inr (ended, unfailed) ↦ elim (false≢true (sym ended ∙ ok)) [ ]
]

was_unfailed : (t later : Transaction) → Was t later → is_failed later ≡ false → is_failed t ≡ false
was_unfailed t later was unfailed = elim was.same [
  | inl same ↦ ap is_failed same ∙ unfailed
  | inr (ended, still) ↦ still
]

installed : (t later : Transaction) (v : Version) → Was t later → IsTrue (installs later v) → IsTrue (installs t v)
installed t later v was = subst (λ ws. has_version (map version_of (last_writes ws)) v ≡ true) (sym was.writes)

read_before :
    (t later : Transaction) (v : Version)
    → Was t later
    → IsTrue (is_known_to_read later v)
    → IsTrue (is_known_to_read t v)
read_before t later v was read = subst (λ x. is_known_to_read x v ≡ true) (sym (was_ok t later was (reader_is_ok later v read))) read

-- each node was there before, and what orders versions did
pub record AddNothing (keys : KeyOrder) (ts later : List Transaction) : Type 0 where
  pub from : (u : Transaction) → Contains (nodes later) u → (t : Transaction) × In t ts × Was t u
  pub steps : (p : VersionPair) → Contains (process_pairs keys later) p → Contains (process_pairs keys ts) p

module _ (keys : KeyOrder) (ts later : List Transaction) (nothing : AddNothing keys ts later) where
  ok_before : (u : Transaction) → In u later → is_ok u ≡ true → In u ts
  ok_before u i ok =
      let (t, j, was) = nothing.from u (Contains_from_in u (nodes later) (ok_is_node later u i ok)) in
      subst (λ x. In x ts) (was_ok t u was ok) j

  was_read_before : (t u : Transaction) → Was t u → was_read later u ≡ true → was_read ts t ≡ true
  was_read_before t u was read =
      let reads = λ (w : Write) (reader : Transaction). is_known_to_read reader (version_of w) in
      let (w, wrote, some) = some_passes (λ w. list_any (reads w) later) (writes_of u.mops) read in
      let (reader, among, known) = some_passes (reads w) later some in
      any_passes (λ w. list_any (reads w) ts) w (writes_of t.mops) (subst (In w) (sym was.writes) wrote)
      (any_passes (reads w) reader ts (ok_before reader among (reader_is_ok reader (version_of w) known)) known)

  node_before : (u : Transaction) → Contains (nodes later) u → (t : Transaction) × Contains (nodes ts) t × Was t u
  node_before u i =
      let (t, j, was) = nothing.from u i in
      let node : is_node later u ≡ true = passes_filter (is_node later) u later (in_from_Contains u (nodes later) i) in
      let is : is_node ts t ≡ true = elim (or_cases (is_ok u) (not (is_failed u) && was_read later u) node) [
        | inl ok ↦ or_left (is_ok t) (not (is_failed t) && was_read ts t) (subst (λ x. is_ok x ≡ true) (sym (was_ok t u was ok)) ok)
        | inr open_or_info ↦ (
            let (unfailed, read) = and_parts (not (is_failed u)) (was_read later u) open_or_info in
            or_right (is_ok t) (not (is_failed t) && was_read ts t)
            (and_from (not (is_failed t)) (was_read ts t) (ap not (was_unfailed t u was (not-true (is_failed u) unfailed))) (was_read_before t u was read)))
      ] in
      (t, Contains_from_in t (nodes ts) (in_filtered (is_node ts) t ts j is), was)

  pair_before : (p : VersionPair) → Contains (version_pairs keys later) p → Contains (version_pairs keys ts) p
  pair_before p c = (pairs_by_membership keys ts p).1 (by ((pairs_by_membership keys later p).0 c))
    where
      by : IsVersionPair keys later p → IsVersionPair keys ts p
      by (inl (nil, u, i, installs_it)) =
          let (t, j, was) = node_before u i in
          inl (nil, t, j, installed t u p.later was installs_it)
      by (inr (inl (key, differ, u, i, reads, installs_it))) =
          let there : In u ts = ok_before u (in_from_Contains u later i) (reader_is_ok u p.earlier reads) in
          inr (inl (key, differ, u, Contains_from_in u ts there, reads, installs_it))
      by (inr (inr step)) = inr (inr (nothing.steps p step))

  depends_before :
      (t s u r : Transaction) (label : Label)
      → Was t s
      → Was u r
      → Depends keys later s r label
      → Depends keys ts t u label
  depends_before t s u r (ww v w) first second (paired, earlier, follows) =
      (pair_before (pair v w) paired, installed t s v first earlier, installed u r w second follows)
  depends_before t s u r (wr v) first second (installs_it, reads) = (installed t s v first installs_it, read_before u r v second reads)
  depends_before t s u r (rw v w) first second (paired, reads, follows) =
      (pair_before (pair v w) paired, read_before t s v first reads, installed u r w second follows)
  depends_before t s u r (process p) first second d = elim d [ ]
  depends_before t s u r (realtime c i) first second d = elim d [ ]

  edge_before : (e : Edge) → Contains (dependency_edges keys later) e → Contains (dependency_edges keys ts) e
  edge_before e c =
      let (s, r, i, j, other, is, depends) = (edges_by_versions keys later e).0 c in
      let (t, first, was) = node_before s i in
      let (u, second, were) = node_before r j in
      (edges_by_versions keys ts e).1 (
        t,
        u,
        first,
        second,
        λ same. other (sym was.invocation ∙ same ∙ were.invocation),
        is ∙ ap (λ n. record { from = n; to = r.invocation; label = e.label }) (sym was.invocation)
            ∙ ap (λ n. record { from = t.invocation; to = n; label = e.label }) (sym were.invocation),
        depends_before t s u r e.label was were depends,
      )

  pub points_before : (point : ℕ → ℕ) → ArePoints keys ts point → ArePoints keys later point
  points_before point are =
      by_points keys later point
      (λ u i. let (t, j, was) = node_before u i in subst (λ n. point_at n ≤ point n) was.invocation (point_begun keys ts point are t j))
      (λ u i completion ok at.
      let (t, j, was) = node_before u i in
      let same : t ≡ u = was_ok t u was ok in
      point_ended keys ts point are u (subst (Contains (nodes ts)) same j) completion ok at)
      (λ e c. points_rise keys ts point are e (edge_before e c))

-- ---- an invocation that writes nothing read

open_stays_unread :
    (events : List Operation) (event : Operation)
    → is_invoke event.kind ≡ true
    → WritesNothingRead (transactions_of events) event
    → is_node (transactions_of (events ++ event ∷ [])) (transaction_by (length events) event None) ≡ true → ⊥
open_stays_unread events event invokes unread node =
    let ts : List Transaction = transactions_of events in
    let later : List Transaction = transactions_of (events ++ event ∷ []) in
    let new : Transaction = transaction_by (length events) event None in
    let reads = λ (w : Write) (reader : Transaction). is_known_to_read reader (version_of w) in
    let (w, wrote, some) = some_passes (λ w. list_any (reads w) later) (writes_of event.mops) node in
    let (reader, among, known) = some_passes (reads w) later some in
    elim (in_append reader ts (new ∷ []) (subst (In reader) (invoked events event invokes) among)) [
      | inl there ↦
          false≢true
          (sym (unread reader (version_of w) (Contains_from_in reader ts there) known)
          ∙ has_from_in (version_of w) (map version_of (writes_of event.mops)) (in_mapped version_of w (writes_of event.mops) wrote))
      | inr own ↦ elim own [
        | inl here ↦ false≢true (ap is_ok here ∙ reader_is_ok reader (version_of w) known)
        | inr none ↦ none
      ]
    ]

invocation_adds_nothing :
    (keys : KeyOrder) (events : List Operation) (event : Operation)
    → is_invoke event.kind ≡ true
    → WritesNothingRead (transactions_of events) event
    → AddNothing keys (transactions_of events) (transactions_of (events ++ event ∷ []))
invocation_adds_nothing keys events event invokes unread = record { from = from; steps = λ p. subst (λ ps. Contains ps p) (same_process_pairs keys ts later same_ok) }
  where
    ts : List Transaction
    ts = transactions_of events

    later : List Transaction
    later = transactions_of (events ++ event ∷ [])

    new : Transaction
    new = transaction_by (length events) event None

    from : (u : Transaction) → Contains (nodes later) u → (t : Transaction) × In t ts × Was t u
    from u i = elim (in_append u ts (new ∷ []) (subst (In u) (invoked events event invokes) (node_among later u i))) [
      | inl there ↦ (u, there, was_itself u)
      | inr own ↦ elim own [
        | inl here ↦
            elim (open_stays_unread events event invokes unread
            (ap (is_node later) here ∙ passes_filter (is_node later) u later (in_from_Contains u (nodes later) i))) [ ]
        | inr none ↦ elim none [ ]
      ]
    ]

    same_ok : filter is_ok later ≡ filter is_ok ts
    same_ok = ap (filter is_ok) (invoked events event invokes) ∙ filter-append is_ok ts (new ∷ []) ∙ append-nil (filter is_ok ts)

pub stay_at_unread_invocation :
    (keys : KeyOrder) (events : List Operation) (event : Operation)
    → event.kind ≡ kinds.Invoke
    → WritesNothingRead (transactions_of events) event
    → PointsStay keys events event
stay_at_unread_invocation keys events event kind unread =
    points_before keys (transactions_of events) (transactions_of (events ++ event ∷ [])) (invocation_adds_nothing keys events event (ap is_invoke kind) unread)

-- ---- a fail or an info

record Ends (kind : OpKind) : Type 0 where
  completes : is_invoke kind ≡ false
  not_ok : is_ok_status (status_by kind) ≡ false
  same_mops : (ms ns : List Mop) → mops_by (status_by kind) ms ns ≡ ms

ends_by : (kind : OpKind) → (kind ≡ kinds.Fail) ⊎ (kind ≡ kinds.Info) → Ends kind
ends_by kind (inl e) = subst Ends (sym e) (record { completes = refl; not_ok = refl; same_mops = λ ms ns. refl })
ends_by kind (inr e) = subst Ends (sym e) (record { completes = refl; not_ok = refl; same_mops = λ ms ns. refl })

end_adds_nothing :
    (keys : KeyOrder) (events : List Operation) (event : Operation)
    → Ends event.kind
    → AddNothing keys (transactions_of events) (transactions_of (events ++ event ∷ []))
end_adds_nothing keys events event ends = elim (completes events event ends.completes) [
  | inl (x, c) ↦ record {
    from = λ u i. elim (c.changed u (node_among later u i)) [
      | inl done ↦ (x, c.there, subst (Was x) (sym done) (now x (open_not_failed x c.unended)))
      | inr there ↦ (u, there, was_itself u)
    ];
    steps = λ p. subst (λ ps. Contains ps p) (same_process_pairs keys ts later (c.same_ok ends.not_ok));
  }
  | inr same ↦ record {
    from = λ u i. (u, subst (In u) same (node_among later u i), was_itself u);
    steps = λ p. subst (λ us. Contains (process_pairs keys us) p) same;
  }
]
  where
    ts : List Transaction
    ts = transactions_of events

    later : List Transaction
    later = transactions_of (events ++ event ∷ [])

    now : (x : Transaction) → is_failed x ≡ false → Was x (completed x (length events) event)
    now x unfailed = record { invocation = refl; writes = ap writes_of (sym (ends.same_mops x.mops event.mops)); same = inr (ends.not_ok, unfailed) }

pub stay_at_end :
    (keys : KeyOrder) (events : List Operation) (event : Operation)
    → (event.kind ≡ kinds.Fail) ⊎ (event.kind ≡ kinds.Info)
    → PointsStay keys events event
stay_at_end keys events event kind =
    points_before keys (transactions_of events) (transactions_of (events ++ event ∷ [])) (end_adds_nothing keys events event (ends_by event.kind kind))
