-- Points of some events, and of one event more.
use Rattle.std.proofs.Common.{◌≡◌, ◌⊎◌, inl, inr, ℕ, ◌<◌, ◌≤◌, List, [], ◌∷◌, ◌++◌, length, true, false, not, ◌&&◌, Some, All, Contains, IsTrue, IsFalse, map, slice_index, arith, sym, ◌∙◌, ap, subst}
use Rattle.std.specs.Prelude.{slice_get}
use Rattle.std.specs.List.{list_any}
use Rattle.std.proofs.lemmas.Bool.{and_from, and_parts, false≢true, or_cases, or_left, or_right}
use Rattle.std.proofs.lemmas.List.Elements.{All-contains, All-weaker}
use Rattle.std.proofs.lemmas.Option.{same_Some, slice_get-get_or, slice_get_within}
use Rattle.hist_types.specs.Edges.{dependency_edges}
use Rattle.hist_types.specs.Journal.{Write, writes_of, KeepsRules}
use Rattle.hist_types.specs.Operations.{Operation}
use Rattle.hist_types.specs.Phenomena.{stray}
use Rattle.hist_types.specs.Transactions.{Transaction, Version, version_of, transactions_of, is_ok, is_failed, installs, is_known_to_read, writes, was_read, is_node, nodes}
use Rattle.hist_types.specs.declared.types.KeyOrder.TheVariants.{Basic}
use Rattle.hist_types.proofs.Members.{In, in_from_Contains, Contains_from_in, in_mapped, passes_filter}
use Rattle.history_laws.specs.BadReads.{NobodyWrote}
use Rattle.history_laws.proofs.ThinningPaths.{any_passes, some_passes}
use Rattle.history_laws.proofs.ThinningTimes.{transactions_timed}
use Rattle.history_laws.proofs.VersionMembers.{has_from_in}
use Rattle.key_versions.specs.Kept.{KeptVersions, AreKept, StayBeside}
use Rattle.key_versions.specs.TxnAccesses.{TxnAccesses}
use Rattle.key_versions.specs.declared.pending.Access.{Access}
use Rattle.dep_edges.specs.Tables.{txn_at}
use Rattle.dep_edges.proofs.Found.{read_at_place}
use Rattle.dep_edges.proofs.Lists.{all_in}
use Rattle.dep_edges.proofs.Marks.{place_in}
use Rattle.dep_edges.proofs.Writers.{in_at}
use Rattle.clean_order.specs.ByVersion.{IsAnother, IsAbovePredecessors, RisesInto, RisesOutOf}
use Rattle.clean_order.specs.CleanReads.{IsInstalled, IsCleanRead, ReadsAreClean}
use Rattle.clean_order.specs.Points.{IsNotBefore, IsNotAfter, ArePoints}
use Rattle.clean_order.proofs.Points.{by_points, point_begun, point_ended, points_rise}
use Rattle.clean_order.specs.Accesses.{updates}
use Rattle.clean_order.proofs.Accesses.{has_accesses, kept_count, read_access, write_access}
use Rattle.clean_order.proofs.Dependencies.{ends_by, node_among, rises_between, rises_into, rises_out_of}
use Rattle.serial_points.specs.Bounds.{AreBounds, BoundsReads, BoundAll, AreFloors, IsFloored, FloorAll}
use Rattle.serial_points.specs.ByPlace.{AreListed}
use Rattle.serial_points.specs.Clean.{AreUnread}
use Rattle.serial_points.specs.Falls.{HaveFallen, PassesAt, PassesUnlessOk, PassesAfter}
use Rattle.serial_points.specs.KeptPoints.{BasicPoints, HasBasicPoints, FallAndPass, UsersAdvance}
use Rattle.serial_points.specs.NextPoints.{HasMoved, AreNextPoints}
use Rattle.serial_points.specs.Users.{places_at, IsListed, AreUsers, IsAmongUsers, UsersStay}
use Rattle.serial_points.specs.Views.{PointsView, run_of, view_of}
use Rattle.serial_points.specs.declared.falls.Fall.{Fall}
use Rattle.serial_points.specs.declared.steps.StepLists.{StepLists}
use Rattle.serial_points.specs.declared.users.Users.{Users}
use Rattle.serial_points.proofs.ByPlace.{list_points, look_ups_suffice}
use Rattle.serial_points.proofs.Changed.{IsChanged, same_or_not}
use Rattle.serial_points.proofs.NextPoints.{ok_is_node, points_move}
use Rattle.serial_points.proofs.Passed.{above_readers, above_writers, below_successors, reader_listed, writer_listed}

still_among : (users later : Users) (k : ℕ) (reads writes : List Access) → UsersStay users later → IsAmongUsers users k reads writes → IsAmongUsers later k reads writes
still_among users later k reads writes stay are = record {
  readers = All-weaker (λ (a : Access). IsListed users.readers a.version k) (λ (a : Access). IsListed later.readers a.version k) (λ a. stay.readers a.version k) reads are.readers;
  writers = All-weaker (λ (a : Access). IsListed users.writers a.version k) (λ (a : Access). IsListed later.writers a.version k) (λ a. stay.writers a.version k) writes are.writers;
  key_writers = All-weaker (λ (a : Access). IsListed users.key_writers a.nil k) (λ (a : Access). IsListed later.key_writers a.nil k) (λ a. stay.key_writers a.nil k) writes are.key_writers;
  updaters = All-weaker (λ (a : Access). IsTrue (updates writes a) → IsListed users.updaters a.version k) (λ (a : Access). IsTrue (updates writes a) → IsListed later.updaters a.version k)
      (λ a listed has. stay.updaters a.version k (listed has)) reads are.updaters;
}

module _ (events : List Operation) (event : Operation) (before after : KeptVersions) (p : BasicPoints) (points : List ℕ) (users : Users) (place : ℕ) (t : Transaction)
    (had : HasBasicPoints events before p)
    (rules : KeepsRules (events ++ event ∷ []))
    (kept : AreKept (transactions_of (events ++ event ∷ [])) after)
    (others : StayBeside place before.accesses after.accesses)
    (changed : IsChanged (length events) (transactions_of events) (transactions_of (events ++ event ∷ [])) place t)
    (grown : UsersAdvance p.users users after.accesses place) where
  abbrev pub ts : List Transaction
  ts = transactions_of events

  abbrev pub later : List Transaction
  later = transactions_of (events ++ event ∷ [])

  pub users_are : AreUsers after.accesses users
  users_are k a at = elim (same_or_not k place) [
    | inl same ↦ subst (λ n. IsAmongUsers users n a.reads a.writes) (sym same) (grown.among a (subst (λ n. slice_get after.accesses n ≡ Some a) same at))
    | inr differ ↦ still_among p.users users k a.reads a.writes grown.stay (had.users k a (others k a differ at))
  ]

  pub own_accesses : (a : TxnAccesses) × (slice_get after.accesses place ≡ Some a)
  own_accesses = has_accesses later after place t kept changed.at

  is_among : In t later
  is_among = in_at later place t changed.at

  -- nobody read what the transaction writes
  pub unread_by :
      (a : TxnAccesses)
      → slice_get after.accesses place ≡ Some a
      → AreUnread users.readers a.writes
      → (k : ℕ) (u : Transaction) (v : Version)
      → slice_get later k ≡ Some u
      → is_known_to_read u v ≡ true
      → writes t v ≡ true
      → ⊥
  unread_by a there unread k u v at read wrote =
      let (x, i, number) = write_access later after kept place t a changed.at there v wrote in
      let listed = reader_listed later after users kept users_are x.version k u v at read number.1 in
      let none = All-contains (λ (y : Access). places_at users.readers y.version ≡ []) a.writes x unread (Contains_from_in x a.writes i) in
      in_from_Contains k [] (subst (λ places. Contains places k) none listed)

  pub clean_after :
      ((v : Version) → is_known_to_read t v ≡ true → IsCleanRead later t v)
      → ((v : Version) (k : ℕ) (u w : Transaction)
      → slice_get later k ≡ Some u
      → is_known_to_read u v ≡ true
      → slice_get ts place ≡ Some w
      → is_failed w ≡ false
      → installs w v ≡ true
      → (is_failed t ≡ false) × (installs t v ≡ true))
      → ((v : Version) (k : ℕ) (u : Transaction) → slice_get later k ≡ Some u → is_known_to_read u v ≡ true → NobodyWrote ts v → writes t v ≡ false)
      → ReadsAreClean later
  clean_after own still unwritten reader v among read =
      let (k, at) = place_in later reader (in_from_Contains reader later among) in
      elim (same_or_not k place) [
        | inl same ↦ (
            let is : t ≡ reader = same_Some t reader (sym changed.at ∙ ap (slice_get later) (sym same) ∙ at) in
            subst (λ x. IsCleanRead later x v) is (own v (subst (λ x. is_known_to_read x v ≡ true) (sym is) read)))
        | inr differ ↦ elim (had.clean reader v (Contains_from_in reader ts (in_at ts k reader (changed.other k reader differ at))) read) [
          | inl nil ↦ inl nil
          | inr (inl (w, i, unfailed, installed)) ↦ inr (inl (installed_still k at read w i unfailed installed))
          | inr (inr (inl nobody)) ↦ inr (inr (inl (unwritten_still k at read nobody)))
          | inr (inr (inr wrote)) ↦ inr (inr (inr wrote))
        ]
      ]
    where
      installed_still :
          (k : ℕ)
          → slice_get later k ≡ Some reader
          → is_known_to_read reader v ≡ true
          → (w : Transaction)
          → Contains ts w
          → is_failed w ≡ false
          → installs w v ≡ true
          → IsInstalled later v
      installed_still k at read w i unfailed installed =
          let (j, found) = place_in ts w (in_from_Contains w ts i) in
          elim (same_or_not j place) [
            | inl here ↦ (
                let (un, ins) = still v k reader w at read (subst (λ n. slice_get ts n ≡ Some w) here found) unfailed installed in
                (t, Contains_from_in t later is_among, un, ins))
            | inr other ↦ (w, Contains_from_in w later (in_at later j w (changed.still j w other found)), unfailed, installed)
          ]

      unwritten_still : (k : ℕ) → slice_get later k ≡ Some reader → is_known_to_read reader v ≡ true → NobodyWrote ts v → NobodyWrote later v
      unwritten_still k at read nobody =
          all_in (λ w. IsFalse (writes w v)) later (λ w i.
          let (j, found) = place_in later w i in
          elim (same_or_not j place) [
            | inl here ↦ subst (λ x. writes x v ≡ false) (same_Some t w (sym changed.at ∙ ap (slice_get later) (sym here) ∙ found)) (unwritten v k reader at read nobody)
            | inr other ↦ All-contains (λ w. IsFalse (writes w v)) ts w nobody (Contains_from_in w ts (in_at ts j w (changed.other j w other found)))
          ])

  -- bounds stay bounds of points that fell
  pub bound_after :
      AreBounds points users.readers p.users.bounds users.bounds
      → ((k : ℕ) → ¬ (k ≡ place) → k < length ts → slice_index points k ≤ slice_index p.points k)
      → ((a : TxnAccesses) → slice_get after.accesses place ≡ Some a → BoundsReads users.bounds (slice_index points place) a.reads a.writes)
      → BoundAll after.accesses points users.bounds
  bound_after bounds lower own k a there = elim (same_or_not k place) [
    | inl here ↦ subst (λ n. BoundsReads users.bounds (slice_index points n) a.reads a.writes) (sym here) (own a (subst (λ n. slice_get after.accesses n ≡ Some a) here there))
    | inr differ ↦ (
        let before_it = others k a differ there in
        let within = slice_get_within before.accesses k a before_it in
        let count = kept_count ts before had.versions in
        let fell = lower k differ (omega (arith, within, count)) in
        all_in (λ (x : Access). IsFalse (updates a.writes x) → slice_index points k ≤ slice_index users.bounds x.version) a.reads (λ x i other.
        let was = All-contains (λ (x : Access). IsFalse (updates a.writes x) → slice_index p.points k ≤ slice_index p.users.bounds x.version) a.reads x (had.bounds k a before_it) (Contains_from_in x a.reads i) other in
        elim (bounds x.version) [
          | inl raised ↦ omega (arith, was, fell, raised)
          | inr at_most ↦
              All-contains (λ other. slice_index points other ≤ slice_index users.bounds x.version) (places_at users.readers x.version) k at_most
              (All-contains (λ (y : Access). IsListed users.readers y.version k) a.reads x (users_are k a there).readers (Contains_from_in x a.reads i))
        ]))
  ]

  -- and so do floors, where those of points that fell were lowered
  pub floor_after :
      AreFloors points users.key_writers p.users.floors users.floors
      → ((k : ℕ) → ¬ (k ≡ place) → k < length ts → (slice_index points k ≡ slice_index p.points k) ⊎ IsFloored after.accesses points users.floors k)
      → IsFloored after.accesses points users.floors place
      → FloorAll after.accesses points users.floors
  floor_after floors fell own k a there = elim (same_or_not k place) [
    | inl here ↦ subst (λ n. IsFloored after.accesses points users.floors n) (sym here) own a there
    | inr differ ↦ (
        let before_it = others k a differ there in
        let within = slice_get_within before.accesses k a before_it in
        let count = kept_count ts before had.versions in
        elim (fell k differ (omega (arith, within, count))) [
          | inr floored ↦ floored a there
          | inl same ↦
              all_in (λ (x : Access). slice_index users.floors x.nil ≤ slice_index points k) a.writes (λ x i.
              let was = All-contains (λ (x : Access). slice_index p.users.floors x.nil ≤ slice_index p.points k) a.writes x (had.floors k a before_it) (Contains_from_in x a.writes i) in
              elim (floors x.nil) [
                | inl lower ↦ omega (arith, was, same, lower)
                | inr at_least ↦
                    All-contains (λ other. slice_index users.floors x.nil ≤ slice_index points other) (places_at users.key_writers x.nil) k at_least
                    (All-contains (λ (y : Access). IsListed users.key_writers y.nil k) a.writes x (users_are k a there).key_writers (Contains_from_in x a.writes i))
              ])
        ])
  ]

  pub has_points :
      (strays : ℕ)
      → BoundAll after.accesses points users.bounds
      → FloorAll after.accesses points users.floors
      → ReadsAreClean later
      → stray later ≡ strays
      → length points ≡ length later
      → ((point : ℕ → ℕ) × AreListed later points point × ArePoints Basic later point)
      → HasBasicPoints (events ++ event ∷ []) after (record { points = points; users = users; strays = strays })
  has_points strays bound floored clean counted count are = record { rules = rules; versions = kept; users = users_are; bounds = bound; floors = floored; clean = clean; strays = counted; count = count; are_points = are }

  -- ---- an ok

  module _ (bound : BoundAll after.accesses points users.bounds) (floored : FloorAll after.accesses points users.floors) (lists : StepLists) (falls : List Fall) (fallen : HaveFallen p.points points falls (length falls)) (passes : PassesAfter (view_of points users (run_of later after lists)) falls place)
      (point next : ℕ → ℕ) (listed : AreListed ts p.points point) (next_listed : AreListed later points next) where
    abbrev pub view : PointsView
    view = view_of points users (run_of later after lists)

    abbrev pub Pass : ℕ → Type 0
    Pass k = PassesAt view k

    only_falls : (u : Transaction) → Contains (nodes ts) u → IsAnother t u → next u.invocation ≤ point u.invocation
    only_falls u node other =
        let (k, at) = place_in ts u (node_among ts u node) in
        elim (same_or_not k place) [
          | inl here ↦ absurd (other (changed.was u (subst (λ n. slice_get ts n ≡ Some u) here at)))
          | inr differ ↦ (
              let first = listed k u at in
              let second = next_listed k u (changed.still k u differ at) in
              let lower = (fallen k).0 in
              omega (arith, first, second, lower))
        ]

    open_writer :
        (k : ℕ) (u : Transaction)
        → ¬ (k ≡ place)
        → slice_get later k ≡ Some u
        → is_node later u ≡ true
        → is_node ts u ≡ false
        → Pass k
    open_writer k u differ at node unknown =
        elim (or_cases (is_ok u) (not (is_failed u) && was_read later u) node) [
          | inl ok ↦ absurd (not_ok ok)
          | inr unfailed_read ↦ (
              let (unfailed, was) = and_parts (not (is_failed u)) (was_read later u) unfailed_read in
              let (w, wrote, some) = some_passes (λ (w : Write). list_any (λ reader. is_known_to_read reader (version_of w)) later) (writes_of u.mops) was in
              let (reader, among, known) = some_passes (λ reader. is_known_to_read reader (version_of w)) later some in
              let (j, found) = place_in later reader among in
              elim (same_or_not j place) [
                | inl here ↦ (
                    let is : t ≡ reader = same_Some t reader (sym changed.at ∙ ap (slice_get later) (sym here) ∙ found) in
                    read_by_own w wrote (subst (λ x. is_known_to_read x (version_of w) ≡ true) (sym is) known))
                | inr other ↦ absurd (read_before unfailed w wrote reader (in_at ts j reader (changed.other j reader other found)) known)
              ])
        ]
      where
        not_ok : is_ok u ≡ true → ⊥
        not_ok ok = false≢true (sym unknown ∙ or_left (is_ok u) (not (is_failed u) && was_read ts u) ok)

        read_before :
            not (is_failed u) ≡ true
            → (w : Write)
            → In w (writes_of u.mops)
            → (reader : Transaction)
            → In reader ts
            → is_known_to_read reader (version_of w) ≡ true
            → ⊥
        read_before unfailed w wrote reader among known =
            let was : was_read ts u ≡ true =
            any_passes (λ (w : Write). list_any (λ reader. is_known_to_read reader (version_of w)) ts) w (writes_of u.mops) wrote
            (any_passes (λ reader. is_known_to_read reader (version_of w)) reader ts among known) in
            false≢true (sym unknown ∙ or_right (is_ok u) (not (is_failed u) && was_read ts u) (and_from (not (is_failed u)) (was_read ts u) unfailed was))

        read_by_own : (w : Write) → In w (writes_of u.mops) → is_known_to_read t (version_of w) ≡ true → Pass k
        read_by_own w wrote read =
            let v : Version = version_of w in
            let (a, there) = own_accesses in
            let (x, i, number) = read_access later after kept place t a changed.at there v read in
            let wrote_it : writes u v ≡ true = has_from_in v (map version_of (writes_of u.mops)) (in_mapped version_of w (writes_of u.mops) wrote) in
            let listed_there = writer_listed later after users kept users_are x.version k u v at wrote_it number.1 in
            let all = All-contains (λ (y : Access). All (PassesUnlessOk view) (places_at users.writers y.version)) a.reads x (passes.writers a there) (Contains_from_in x a.reads i) in
            elim (All-contains (PassesUnlessOk view) (places_at users.writers x.version) k all listed_there) [
              | inl ok ↦ absurd (not_ok (ok u at))
              | inr pass ↦ pass
            ]

    passes_moved : (u : Transaction) → Contains (nodes later) u → HasMoved ts t point next u → (k : ℕ) × (slice_get later k ≡ Some u) × Pass k
    passes_moved u node (inl same) =
        let is : t ≡ u = (transactions_timed (events ++ event ∷ [])).apart t u is_among (node_among later u node) (sym same) in
        (place, subst (λ x. slice_get later place ≡ Some x) is changed.at, passes.own)
    passes_moved u node (inr (inl unknown)) =
        let (k, at) = place_in later u (node_among later u node) in
        let is : is_node later u ≡ true = passes_filter (is_node later) u later (in_from_Contains u (nodes later) node) in
        elim (same_or_not k place) [
          | inl here ↦ (k, at, subst Pass (sym here) passes.own)
          | inr differ ↦ (k, at, open_writer k u differ at is unknown)
        ]
    passes_moved u node (inr (inr moved)) =
        let (k, at) = place_in later u (node_among later u node) in
        elim (same_or_not k place) [
          | inl here ↦ (k, at, subst Pass (sym here) passes.own)
          | inr differ ↦ elim (fallen k).1 [
            | inl same ↦ absurd (moved (next_listed k u at ∙ same ∙ sym (listed k u (changed.other k u differ at))))
            | inr (i, below, is) ↦ (k, at, subst Pass is (passes.fallen i below))
          ]
        ]

    into_at : (k : ℕ) (u : Transaction) → slice_get later k ≡ Some u → Pass k → Contains (nodes later) u → RisesInto next u (dependency_edges Basic later)
    into_at k u at pass node =
        let within : k < length later = slice_get_within later k u at in
        let here : slice_get later k ≡ Some (txn_at later k) = slice_get-get_or later k (txn_at later k) within ∙ ap Some (read_at_place later k within) in
        let is : txn_at later k ≡ u = same_Some (txn_at later k) u (sym here ∙ at) in
        let (a, there) = has_accesses later after k (txn_at later k) kept here in
        rises_into (events ++ event ∷ []) rules next u node
        (subst (IsAbovePredecessors later next) is
        (look_ups_suffice (events ++ event ∷ []) rules points next k next_listed within (record {
          writers = above_writers later after users kept users_are points k (txn_at later k) a here there (pass.into a there);
          readers = above_readers later after users kept users_are points k (txn_at later k) a here there (pass.into a there) bound;
        })))

    out_of : is_ok t ≡ true → RisesOutOf next t (dependency_edges Basic later)
    out_of ok =
        let (a, there) = own_accesses in
        rises_out_of (events ++ event ∷ []) rules next t (Contains_from_in t (nodes later) (ok_is_node later t is_among ok))
        (below_successors later after users kept users_are points place t a changed.at there next next_listed floored (passes.out a there))

    are_next : is_ok t ≡ true → AreNextPoints ts later t point next
    are_next ok = record {
      falls = only_falls;
      begun = λ u node moved.
          let (k, at, pass) = passes_moved u node moved in
          subst (λ n. IsNotBefore n u) (sym (next_listed k u at)) (pass.begun u at);
      ended = subst (λ n. IsNotAfter n t) (sym (next_listed place t changed.at)) (passes.ended t changed.at);
      into = λ u node moved. let (k, at, pass) = passes_moved u node moved in into_at k u at pass node;
      out = out_of ok;
    }

  pub points_fall :
      (lists : StepLists) (falls : List Fall)
      → is_ok t ≡ true
      → BoundAll after.accesses points users.bounds
      → FloorAll after.accesses points users.floors
      → FallAndPass p.points (view_of points users (run_of later after lists)) falls place
      → (point : ℕ → ℕ) × AreListed later points point × ArePoints Basic later point
  points_fall lists falls ok bound floored (count, fallen, passes, lowered) =
      let (point, listed, are) = had.are_points in
      let (next, next_listed) = list_points (events ++ event ∷ []) points in
      (next, next_listed, points_move events event rules t point next (Contains_from_in t later is_among) changed.of are (are_next bound floored lists falls fallen passes point next listed next_listed ok))

  -- ---- an invocation

  same_at_nodes : (point next : ℕ → ℕ) → ((u : Transaction) → Contains (nodes later) u → next u.invocation ≡ point u.invocation) → ArePoints Basic later point → ArePoints Basic later next
  same_at_nodes point next same are =
      by_points Basic later next
      (λ u i. subst (λ n. IsNotBefore n u) (sym (same u i)) (point_begun Basic later point are u i))
      (λ u i. subst (λ n. IsNotAfter n u) (sym (same u i)) (point_ended Basic later point are u i))
      (λ e c.
      let (s, u, v, ends) = ends_by (events ++ event ∷ []) e rules c in
      let rises = points_rise Basic later point are e c in
      let less : point s.invocation < point u.invocation = subst (λ n. point s.invocation < point n) ends.to (subst (λ n. point n < point e.to) ends.from rises) in
      let first = same s ends.first in
      let second = same u ends.second in
      rises_between next e s.invocation u.invocation ends.from ends.to (omega (arith, less, first, second)))

  not_a_node : (a : TxnAccesses) → slice_get after.accesses place ≡ Some a → AreUnread users.readers a.writes → is_ok t ≡ false → is_node later t ≡ true → ⊥
  not_a_node a there unread not_ok node =
      elim (or_cases (is_ok t) (not (is_failed t) && was_read later t) node) [
        | inl ok ↦ false≢true (sym not_ok ∙ ok)
        | inr unfailed_read ↦ (
            let (unfailed, was) = and_parts (not (is_failed t)) (was_read later t) unfailed_read in
            let (w, wrote, some) = some_passes (λ (w : Write). list_any (λ reader. is_known_to_read reader (version_of w)) later) (writes_of t.mops) was in
            let (reader, among, known) = some_passes (λ reader. is_known_to_read reader (version_of w)) later some in
            let (j, found) = place_in later reader among in
            unread_by a there unread j reader (version_of w) found known (has_from_in (version_of w) (map version_of (writes_of t.mops)) (in_mapped version_of w (writes_of t.mops) wrote)))
      ]

  pub points_stay :
      ((u : Transaction) (k : ℕ) → ¬ (k ≡ place) → slice_get ts k ≡ Some u → slice_index points k ≡ slice_index p.points k)
      → (a : TxnAccesses)
      → slice_get after.accesses place ≡ Some a
      → AreUnread users.readers a.writes
      → is_ok t ≡ false
      → ((point : ℕ → ℕ) → ArePoints Basic ts point → ArePoints Basic later point)
      → (point : ℕ → ℕ) × AreListed later points point × ArePoints Basic later point
  points_stay same a there unread not_ok stay =
      let (point, listed, are) = had.are_points in
      let (next, next_listed) = list_points (events ++ event ∷ []) points in
      (next, next_listed, same_at_nodes point next (λ u node. same_there point next listed next_listed u node) (stay point are))
    where
      same_there :
          (point next : ℕ → ℕ)
          → AreListed ts p.points point
          → AreListed later points next
          → (u : Transaction)
          → Contains (nodes later) u
          → next u.invocation ≡ point u.invocation
      same_there point next listed next_listed u node =
          let (k, at) = place_in later u (node_among later u node) in
          elim (same_or_not k place) [
            | inl here ↦ (
                let is : u ≡ t = same_Some u t (sym at ∙ ap (slice_get later) here ∙ changed.at) in
                absurd (not_a_node a there unread not_ok (subst (λ x. is_node later x ≡ true) is (passes_filter (is_node later) u later (in_from_Contains u (nodes later) node)))))
            | inr differ ↦ (
                let was = changed.other k u differ at in
                next_listed k u at ∙ same u k differ was ∙ sym (listed k u was))
          ]
