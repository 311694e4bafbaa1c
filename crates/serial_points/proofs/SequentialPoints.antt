-- Points that rise along what basic keys order and along the steps of processes are points where keys are sequential.
use Rattle.std.proofs.Common.{◌≡◌, ◌⊎◌, inl, inr, ℕ, ◌<◌, ◌&&◌, not, List, Some, Option, Contains, IsTrue, true, map, arith, refl, sym, ◌∙◌, ap, subst}
use Rattle.std.specs.Prelude.{slice_get}
use Rattle.std.specs.List.{list_any}
use Rattle.std.proofs.lemmas.Bool.{and_parts, or_cases}
use Rattle.std.proofs.lemmas.Option.{same_Some}
use Rattle.hist_types.specs.Edges.{Label, ww, wr, rw, process, realtime, Edge}
use Rattle.hist_types.specs.Operations.{Operation}
use Rattle.hist_types.specs.Journal.{Write, writes_of}
use Rattle.hist_types.specs.Transactions.{Transaction, Version, version_of, transactions_of, is_ok, is_failed, was_read, is_node, nodes, installs, is_known_to_read}
use Rattle.hist_types.specs.Versions.{pair, process_pairs}
use Rattle.hist_types.specs.declared.types.KeyOrder.{KeyOrder}
use Rattle.hist_types.specs.declared.types.KeyOrder.TheVariants.{Basic, Sequential}
use Rattle.hist_types.proofs.Members.{Contains_from_in, in_from_Contains, in_mapped, passes_filter}
use Rattle.history_laws.specs.Dependencies.{Depends}
use Rattle.history_laws.proofs.DependencyEdges.{edges_by_versions}
use Rattle.history_laws.proofs.ThinningPaths.{some_passes}
use Rattle.history_laws.proofs.VersionMembers.{has_from_in, pairs_by_membership}
use Rattle.key_versions.specs.Kept.{KeptVersions, AreKept}
use Rattle.key_versions.specs.TxnAccesses.{TxnAccesses}
use Rattle.dep_edges.proofs.Marks.{place_in}
use Rattle.clean_order.specs.ByVersion.{RisesAlong, IsAnother}
use Rattle.clean_order.specs.Points.{ArePoints}
use Rattle.clean_order.proofs.Accesses.{has_accesses, read_access, same_number, write_access}
use Rattle.clean_order.proofs.Dependencies.{node_among, rises_between}
use Rattle.clean_order.proofs.Points.{by_points, point_begun, point_ended, points_rise}
use Rattle.serial_points.specs.ByPlace.{AreListed}
use Rattle.serial_points.specs.KeptPoints.{KeptPoints, HasPoints}
use Rattle.serial_points.specs.KeptSteps.{HasSteps}
use Rattle.serial_points.specs.Stepping.{has_install, HasReader, Uses}
use Rattle.serial_points.specs.Users.{HasAccess, AreUsers}
use Rattle.serial_points.specs.declared.steps.Steps.{Steps}
use Rattle.serial_points.specs.declared.users.Users.{Users}
use Rattle.serial_points.proofs.Installed.{installer_has}
use Rattle.serial_points.proofs.Passed.{reader_listed}

module _ (ts : List Transaction) (kept : KeptVersions) (points : List ℕ) (users : Users) (steps : Steps) (point : ℕ → ℕ)
    (are : AreKept ts kept) (used : AreUsers kept.accesses users) (listed : AreListed ts points point) (has : HasSteps ts kept points users steps) (basic : ArePoints Basic ts point) where
  -- the access of what a transaction reads or installs
  has_read :
      (number k : ℕ) (t : Transaction) (v : Version) (a : TxnAccesses)
      → slice_get ts k ≡ Some t
      → slice_get kept.accesses k ≡ Some a
      → slice_get kept.versions number ≡ Some v
      → IsTrue (is_known_to_read t v)
      → HasAccess a.reads number
  has_read number k t v a at there is read =
      let (x, i, numbers) = read_access ts kept are k t a at there v read in
      (x, Contains_from_in x a.reads i, same_number kept.versions x.version number v are.distinct numbers.1 is)

  has_installed :
      (number k : ℕ) (t : Transaction) (v : Version) (a : TxnAccesses)
      → slice_get ts k ≡ Some t
      → slice_get kept.accesses k ≡ Some a
      → slice_get kept.versions number ≡ Some v
      → IsTrue (installs t v)
      → IsTrue (has_install number a.writes)
  has_installed number k t v a at there is installed = installer_has ts kept k t a number v are at there is installed

  -- a node is ok, or somebody is listed as a reader of what it writes
  ok_or_read :
      (k : ℕ) (t : Transaction) (a : TxnAccesses)
      → slice_get ts k ≡ Some t
      → slice_get kept.accesses k ≡ Some a
      → is_node ts t ≡ true
      → (is_ok t ≡ true) ⊎ HasReader users.readers a.writes
  ok_or_read k t a at there node = elim (or_cases (is_ok t) (not (is_failed t) && was_read ts t) node) [
    | inl ok ↦ inl ok
    | inr unfailed_read ↦ (
        let was = (and_parts (not (is_failed t)) (was_read ts t) unfailed_read).1 in
        let (w, wrote, some) = some_passes (λ (w : Write). list_any (λ reader. is_known_to_read reader (version_of w)) ts) (writes_of t.mops) was in
        let (reader, among, known) = some_passes (λ reader. is_known_to_read reader (version_of w)) ts some in
        let (j, found) = place_in ts reader among in
        let (x, i, is) = write_access ts kept are k t a at there (version_of w) (has_from_in (version_of w) (map version_of (writes_of t.mops)) (in_mapped version_of w (writes_of t.mops) wrote)) in
        inr (x, j, Contains_from_in x a.writes i, reader_listed ts kept users are used x.version j reader (version_of w) found known is.1))
  ]

  rises_by_step :
      (t u : Transaction) (v w : Version)
      → Contains (nodes ts) t
      → Contains (nodes ts) u
      → IsAnother t u
      → Contains (process_pairs Sequential ts) (pair v w)
      → IsTrue (installs t v) ⊎ IsTrue (is_known_to_read t v)
      → IsTrue (installs u w)
      → point t.invocation < point u.invocation
  rises_by_step t u v w i j other paired uses later =
      let (step, same, there) = has.there (pair v w) paired in
      let of_later : slice_get kept.versions step.0 ≡ Some w = ap (λ (q : Option Version × Option Version). q.0) same in
      let of_earlier : slice_get kept.versions step.1 ≡ Some v = ap (λ (q : Option Version × Option Version). q.1) same in
      let (k, at) = place_in ts t (node_among ts t i) in
      let (l, get) = place_in ts u (node_among ts u j) in
      let (a, first) = has_accesses ts kept k t are at in
      let (b, second) = has_accesses ts kept l u are get in
      let access : Uses users t a step.1 = elim uses [
        | inl installed ↦ inr (has_installed step.1 k t v a at first of_earlier installed, ok_or_read k t a at first (passes_filter (is_node ts) t ts (in_from_Contains t (nodes ts) i)))
        | inr read ↦ inl (has_read step.1 k t v a at first of_earlier read)
      ] in
      let apart : ¬ (k ≡ l) = λ e. other (ap (λ (x : Transaction). x.invocation) (same_Some t u (sym at ∙ ap (slice_get ts) e ∙ get))) in
      let less = has.rise step.0 step.1 k l t a b there at first access second (has_installed step.0 l u w b get second of_later later) apart in
      let here = listed k t at in
      let further = listed l u get in
      omega (arith, less, here, further)

  module _ (e : Edge) (t u : Transaction) (i : Contains (nodes ts) t) (j : Contains (nodes ts) u) (other : IsAnother t u) (from : e.from ≡ t.invocation) (to : e.to ≡ u.invocation)
      (as_basic : Depends Basic ts t u e.label → RisesAlong point e) where
    by_pair :
        (v w : Version)
        → Contains (process_pairs Sequential ts) (pair v w)
        → IsTrue (installs t v) ⊎ IsTrue (is_known_to_read t v)
        → IsTrue (installs u w)
        → RisesAlong point e
    by_pair v w paired uses later = rises_between point e t.invocation u.invocation from to (rises_by_step t u v w i j other paired uses later)

    rises_by : (label : Label) → label ≡ e.label → Depends Sequential ts t u label → RisesAlong point e
    rises_by (ww v w) is (paired, installed, later) = elim ((pairs_by_membership Sequential ts (pair v w)).0 paired) [
      | inl nil ↦ as_basic (subst (Depends Basic ts t u) is ((pairs_by_membership Basic ts (pair v w)).1 (inl nil), installed, later))
      | inr (inl update) ↦ as_basic (subst (Depends Basic ts t u) is ((pairs_by_membership Basic ts (pair v w)).1 (inr (inl update)), installed, later))
      | inr (inr step) ↦ by_pair v w step (inl installed) later
    ]
    rises_by (wr v) is depends = as_basic (subst (Depends Basic ts t u) is depends)
    rises_by (rw v w) is (paired, read, later) = elim ((pairs_by_membership Sequential ts (pair v w)).0 paired) [
      | inl nil ↦ as_basic (subst (Depends Basic ts t u) is ((pairs_by_membership Basic ts (pair v w)).1 (inl nil), read, later))
      | inr (inl update) ↦ as_basic (subst (Depends Basic ts t u) is ((pairs_by_membership Basic ts (pair v w)).1 (inr (inl update)), read, later))
      | inr (inr step) ↦ by_pair v w step (inr read) later
    ]
    rises_by (process p) is depends = elim depends [ ]
    rises_by (realtime c n) is depends = elim depends [ ]

  pub sequential_points : ArePoints Sequential ts point
  sequential_points =
      by_points Sequential ts point (point_begun Basic ts point basic) (point_ended Basic ts point basic) (λ e c.
      let (t, u, i, j, other, is, depends) = (edges_by_versions Sequential ts e).0 c in
      rises_by e t u i j other (ap (λ (x : Edge). x.from) is) (ap (λ (x : Edge). x.to) is)
      (λ d. points_rise Basic ts point basic e ((edges_by_versions Basic ts e).1 (t, u, i, j, other, is, d))) e.label refl depends)

-- points that are kept are points of the events, however keys are ordered
pub points_by_keys :
    (events : List Operation) (kept : KeptVersions) (p : KeptPoints)
    → HasPoints events kept p
    → (point : ℕ → ℕ) × ArePoints kept.keys (transactions_of events) point
points_by_keys events kept p has = by kept.keys refl
  where
    by : (keys : KeyOrder) → kept.keys ≡ keys → (point : ℕ → ℕ) × ArePoints keys (transactions_of events) point
    by Basic is = let (point, listed, are) = has.basic.are_points in (point, are)
    by Sequential is =
        let (point, listed, are) = has.basic.are_points in
        (point, sequential_points (transactions_of events) kept p.basic.points p.basic.users p.steps point has.basic.versions has.basic.users listed (has.steps is) are)
