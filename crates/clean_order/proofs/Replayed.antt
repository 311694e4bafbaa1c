-- A history that was replayed has a serial schedule that keeps each edge, and what is read in it was installed.
use Rattle.std.proofs.Common.{◌≡◌, inl, inr, ℕ, ◌<◌, List, [], ◌∷◌, if◌then◌else◌, true, false, not, ◌&&◌, Option, Some, map, length, Contains, IsTrue, sym, ◌∙◌, ap, subst, arith}
use Rattle.std.specs.Prelude.{slice_get}
use Rattle.std.specs.List.{list_any}
use Rattle.std.specs.Option.{is_some}
use Rattle.std.proofs.lemmas.Bool.{and_parts, and_right, or_cases}
use Rattle.std.proofs.lemmas.Option.{same_Some}
use Rattle.hist_types.specs.Journal.{Write, KeepsRules, writes_of}
use Rattle.hist_types.specs.Operations.{Operation}
use Rattle.hist_types.specs.Phenomena.{is_stray, stray}
use Rattle.hist_types.specs.Transactions.{Transaction, Version, version_of, transactions_of, is_ok, is_failed, is_known_to_read, writes, was_read, is_node, nodes}
use Rattle.hist_types.specs.declared.types.KeyOrder.TheVariants.{Basic}
use Rattle.hist_types.proofs.Members.{In, in_from_Contains, Contains_from_in, in_mapped, passes_filter}
use Rattle.history_laws.proofs.ThinningPaths.{any_passes, some_passes}
use Rattle.history_laws.proofs.ThinningTimes.{invoked_in_order}
use Rattle.history_laws.proofs.VersionMembers.{has_from_in}
use Rattle.history_laws.proofs.WrittenOnce.{nil_unwritten, one_writer}
use Rattle.dep_edges.proofs.Marks.{place_in}
use Rattle.dep_edges.proofs.Writers.{in_at}
use Rattle.clean_order.specs.ByVersion.{IsAbovePredecessors}
use Rattle.clean_order.specs.CleanReads.{ReadsAreClean, HasNoBadRead}
use Rattle.clean_order.specs.Listed.{place}
use Rattle.clean_order.specs.Points.{IsNotBefore, IsNotAfter, at_points, ArePoints}
use Rattle.clean_order.specs.Replaying.{is_marked, IsPut, IsReplayingBy}
use Rattle.clean_order.specs.Shown.{HasSerialSchedule}
use Rattle.clean_order.specs.declared.replaying.Replay.{Replay}
use Rattle.clean_order.proofs.Accesses.{installs_writes}
use Rattle.clean_order.proofs.ByVersion.{placed}
use Rattle.clean_order.proofs.CleanReads.{clean_reads_suffice, none_read, reader_is_ok}
use Rattle.clean_order.proofs.Dependencies.{all_rise, node_among}
use Rattle.clean_order.proofs.Points.{by_points}

module _ (events : List Operation) (rules : KeepsRules events) (versions : List Version) (replay : Replay) (point : ℕ → ℕ)
    (all : (k : ℕ) (t : Transaction) → slice_get (transactions_of events) k ≡ Some t → IsTrue (is_ok t) → IsTrue (is_marked replay.put.items k))
    (r : IsReplayingBy (transactions_of events) versions replay point) where
  abbrev ts : List Transaction
  ts = transactions_of events

  -- a transaction has one place
  place_of : (k : ℕ) (t : Transaction) → slice_get ts k ≡ Some t → place t.invocation ts ≡ k
  place_of k t at = placed ts (invoked_in_order events) k t at

  -- ---- who was put

  reader_put : (k : ℕ) (t : Transaction) (v : Version) → slice_get ts k ≡ Some t → is_known_to_read t v ≡ true → IsPut ts replay k t
  reader_put k t v at read = (at, all k t at (reader_is_ok t v read))

  -- who wrote what is read was put before
  writer_before :
      (reader k : ℕ) (t u : Transaction) (v : Version)
      → slice_get ts reader ≡ Some t
      → is_known_to_read t v ≡ true
      → slice_get ts k ≡ Some u
      → writes u v ≡ true
      → IsPut ts replay k u × (point k < point reader)
  writer_before reader k t u v at read at_k wrote = elim (r.reads reader t v (reader_put reader t v at read) read) [
    | inl nil ↦ absurd (nil_unwritten u v wrote nil)
    | inr (j, w, (at_j, mark), less, unfailed, installed) ↦ (
        let is : w ≡ u =
        one_writer events rules w u (Contains_from_in w ts (in_at ts j w at_j)) (Contains_from_in u ts (in_at ts k u at_k)) v (installs_writes w v installed) wrote in
        let same : j ≡ k = sym (place_of j w at_j) ∙ place_of k w (at_k ∙ ap Some (sym is)) in
        ((at_k, subst (λ p. IsTrue (is_marked replay.put.items p)) same mark), subst (λ p. point p < point reader) same less))
  ]

  node_put : (k : ℕ) (u : Transaction) → slice_get ts k ≡ Some u → is_node ts u ≡ true → IsPut ts replay k u
  node_put k u at node = elim (or_cases (is_ok u) (not (is_failed u) && was_read ts u) node) [
    | inl ok ↦ (at, all k u at ok)
    | inr unfailed_read ↦ (
        let was = (and_parts (not (is_failed u)) (was_read ts u) unfailed_read).1 in
        let (w, wrote, some) = some_passes (λ (w : Write). list_any (λ reader. is_known_to_read reader (version_of w)) ts) (writes_of u.mops) was in
        let (reader, among, known) = some_passes (λ reader. is_known_to_read reader (version_of w)) ts some in
        let (j, found) = place_in ts reader among in
        (writer_before j k reader u (version_of w) found known at
        (has_from_in (version_of w) (map version_of (writes_of u.mops)) (in_mapped version_of w (writes_of u.mops) wrote))).0)
  ]

  node_at : (t : Transaction) → Contains (nodes ts) t → (k : ℕ) × IsPut ts replay k t × (place t.invocation ts ≡ k)
  node_at t i =
      let (k, at) = place_in ts t (node_among ts t i) in
      (k, node_put k t at (passes_filter (is_node ts) t ts (in_from_Contains t (nodes ts) i)), place_of k t at)

  -- ---- the schedule

  abbrev point_of : ℕ → ℕ
  point_of invocation = point (place invocation ts)

  above_predecessors : (t : Transaction) → Contains (nodes ts) t → IsAbovePredecessors ts point_of t
  above_predecessors t i =
      let (k, put, is) = node_at t i in
      record {
        installers = λ u v j read installed other.
            let (n, there, at) = node_at u j in
            let before = (writer_before k n t u v put.0 read there.0 (installs_writes u v installed)).1 in
            subst (λ p. point p < point_of t.invocation) (sym at) (subst (λ p. point n < point p) (sym is) before);
        readers = λ u v j follows read other.
            let (n, there, at) = node_at u j in
            let differ : ¬ (n ≡ k) = λ same. other (ap (λ (x : Transaction). x.invocation) (same_Some u t (sym there.0 ∙ ap (slice_get ts) same ∙ put.0))) in
            let before = r.followed k n t u v put there differ follows read in
            subst (λ p. point p < point_of t.invocation) (sym at) (subst (λ p. point n < point p) (sym is) before);
      }

  are_points : ArePoints Basic ts point_of
  are_points =
      by_points Basic ts point_of
      (λ t i. let (k, put, is) = node_at t i in subst (λ p. IsNotBefore (point p) t) (sym is) (r.begun k t put))
      (λ t i. let (k, put, is) = node_at t i in subst (λ p. IsNotAfter (point p) t) (sym is) (r.ended k t put))
      (all_rise events rules point_of above_predecessors)

  -- ---- reads

  clean : ReadsAreClean ts
  clean reader v i read =
      let (k, at) = place_in ts reader (in_from_Contains reader ts i) in
      elim (r.reads k reader v (reader_put k reader v at read) read) [
        | inl nil ↦ inl nil
        | inr (j, w, (at_j, mark), less, unfailed, installed) ↦ inr (inl (w, Contains_from_in w ts (in_at ts j w at_j), unfailed, installed))
      ]

  not_stray : (t : Transaction) (v : Version) → In t ts → is_known_to_read t v ≡ true → is_stray ts v ≡ false
  not_stray t v i read =
      let (k, at) = place_in ts t i in
      elim (r.reads k t v (reader_put k t v at read) read) [
        | inl nil ↦ ap (λ (value : Option _). is_some value && not (list_any (λ writer. writes writer v) ts)) nil
        | inr (j, w, (at_j, mark), less, unfailed, installed) ↦
            and_right (is_some v.value) (not (list_any (λ writer. writes writer v) ts))
            (ap not (any_passes (λ writer. writes writer v) w ts (in_at ts j w at_j) (installs_writes w v installed)))
      ]

  none_stray : stray ts ≡ 0
  none_stray = ap length (none_read ts (λ reader v. if is_stray ts v then v ∷ [] else []) (λ t v i read. ap (λ b. if b then v ∷ [] else []) (not_stray t v i read)))

  pub replayed : HasSerialSchedule Basic ts × HasNoBadRead ts × (stray ts ≡ 0)
  replayed = ((at_points point_of, (λ n. omega arith), are_points), clean_reads_suffice events rules clean, none_stray)
