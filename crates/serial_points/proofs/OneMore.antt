-- Points of one event more, by how its transaction is then.
use Rattle.std.proofs.Common.{◌≡◌, ◌⊎◌, inl, inr, ℕ, ◌+◌, ◌<◌, ◌≤◌, List, [], ◌∷◌, ◌++◌, length, map, true, false, Some, None, Contains, IsFalse, slice_index, arith, refl, sym, ◌∙◌, ap, subst}
use Rattle.std.specs.Prelude.{slice_get}
use Rattle.std.specs.List.{list_any}
use Rattle.std.proofs.lemmas.Bool.{false≢true, false_from_ne_true}
use Rattle.std.proofs.lemmas.List.{get_or_append_left, length-append, length-set}
use Rattle.std.proofs.lemmas.List.Elements.{All-contains}
use Rattle.std.proofs.lemmas.Option.{none-some, same_Some, slice_get_within}
use Rattle.hist_types.specs.Journal.{writes_of, is_invoke}
use Rattle.hist_types.specs.Operations.{Operation}
use Rattle.hist_types.specs.Phenomena.{stray}
use Rattle.hist_types.specs.Transactions.{Transaction, Version, Status, Ok, Fail, Info, version_of, has_version, last_writes, transaction_by, transactions_of, status_by, is_ok, is_ok_status, is_fail_status, installs, is_known_to_read, writes}
use Rattle.hist_types.specs.Versions.{nil_of}
use Rattle.hist_types.specs.declared.types.KeyOrder.{KeyOrder}
use Rattle.hist_types.specs.declared.types.KeyOrder.TheVariants.{Basic}
use Rattle.hist_types.specs.declared.types.OpKind.{OpKind}
use Rattle.hist_types.specs.declared.types.OpKind.TheVariants as kinds
use Rattle.hist_types.proofs.Members.{In, in_from_Contains, Contains_from_in}
use Rattle.history_laws.specs.BadReads.{NobodyWrote}
use Rattle.history_laws.proofs.Blocks.{kept_by_both}
use Rattle.key_versions.specs.Kept.{KeptVersions, HaveAccesses, AreKept}
use Rattle.key_versions.specs.TxnAccesses.{TxnAccesses}
use Rattle.txn_pairs.specs.Growth.{BeginsOne, CompletesOne}
use Rattle.txn_pairs.specs.Places.{completed}
use Rattle.dep_edges.proofs.Lists.{all_in}
use Rattle.dep_edges.proofs.Marks.{place_in}
use Rattle.dep_edges.proofs.Writers.{in_at}
use Rattle.clean_order.specs.CleanReads.{IsCleanRead}
use Rattle.clean_order.specs.Points.{ArePoints}
use Rattle.clean_order.proofs.Points.{by_points}
use Rattle.clean_order.proofs.Accesses.{installs_writes, read_access}
use Rattle.clean_order.proofs.Installed.{installs_number}
use Rattle.clean_order.proofs.CleanReads.{reader_is_ok}
use Rattle.serial_points.specs.Bounds.{AreBounds, BoundsReads, BoundAll, AreFloors, IsFloored, FloorAll}
use Rattle.serial_points.specs.ByPlace.{AreListed}
use Rattle.serial_points.specs.Clean.{IsClean}
use Rattle.serial_points.specs.KeptPoints.{BasicPoints, HasBasicPoints, IsBasicNext, IsCleanAt, AdvancesBy, HasSettled, PointsAdvance, UsersAdvance}
use Rattle.serial_points.specs.NextPoints.{WritesNothingRead}
use Rattle.serial_points.specs.Stepping.{IsUnreadAt}
use Rattle.serial_points.specs.Strays.{unwritten, StraysAdvance}
use Rattle.serial_points.specs.Users.{IsListed, ListVersions, ListKeys, ListUpdated, AreUsers}
use Rattle.serial_points.specs.Views.{PointsView, run_of, view_of}
use Rattle.serial_points.specs.declared.falls.Fall.{Fall}
use Rattle.serial_points.specs.declared.steps.StepLists.{StepLists}
use Rattle.serial_points.specs.declared.users.Users.{Users}
use Rattle.serial_points.proofs.Advancing.{bound_after, floor_after, clean_after, has_points, own_accesses, points_fall, points_stay, unread_by, users_are}
use Rattle.serial_points.proofs.Changed.{IsChanged, begins_or_completes, changed_by_begin, changed_by_end, same_or_not}
use Rattle.serial_points.proofs.Counted.{total, total_more, total_set, any_more, any_set}
use Rattle.serial_points.proofs.Staying.{stay_at_end, stay_at_unread_invocation}
use Rattle.serial_points.proofs.StrayReads.{writes_itself, is_written, strays_in, stray_more, strays_counted, reads_none, reads_nothing, nobody_listed}

is_invocation : (kind : OpKind) → is_invoke kind ≡ true → kind ≡ kinds.Invoke
is_invocation kinds.Invoke e = refl
is_invocation kinds.Ok e = elim (false≢true e) [ ]
is_invocation kinds.Fail e = elim (false≢true e) [ ]
is_invocation kinds.Info e = elim (false≢true e) [ ]

module _ (events : List Operation) (event : Operation) (before after : KeptVersions) (p : BasicPoints) (points : List ℕ) (users : Users) (lists : StepLists) (strays : ℕ) (falls : List Fall) (place : ℕ)
    (next : IsBasicNext events event before p (transactions_of (events ++ event ∷ [])) after place)
    (grown : UsersAdvance p.users users after.accesses place)
    (bounds : AreBounds points users.readers p.users.bounds users.bounds)
    (floors : AreFloors points users.key_writers p.users.floors users.floors)
    (bound_own : (a : TxnAccesses) → slice_get after.accesses place ≡ Some a → BoundsReads users.bounds (slice_index points place) a.reads a.writes)
    (floor_own : IsFloored after.accesses points users.floors place)
    (advance : PointsAdvance p.points (view_of points users (run_of (transactions_of (events ++ event ∷ [])) after lists)) falls place)
    (counted : StraysAdvance p.strays strays users.writers after.accesses place) where
  abbrev pub ts : List Transaction
  ts = transactions_of events

  abbrev pub later : List Transaction
  later = transactions_of (events ++ event ∷ [])

  abbrev pub view : PointsView
  view = view_of points users (run_of later after lists)

  abbrev pub Has : Type 0
  Has = HasBasicPoints (events ++ event ∷ []) after (record { points = points; users = users; strays = strays })

  -- ---- stray reads

  module _ (t : Transaction) (changed : IsChanged (length events) ts later place t) where
    known_users : AreUsers after.accesses users
    known_users = users_are events event before after p points users place t next.points next.rules next.kept next.others changed grown

    own_there : (a : TxnAccesses) × (slice_get after.accesses place ≡ Some a)
    own_there = own_accesses events event before after p points users place t next.points next.rules next.kept next.others changed grown

    strays_after :
        total (strays_in later) later ≡ total (strays_in later) ts + strays_in later t
        → ((u : Transaction) (v : Version) → In u ts → is_known_to_read u v ≡ true → is_written later v ≡ is_written ts v)
        → strays_in later t ≡ unwritten users.writers own_there.0.reads
        → stray later ≡ strays
    strays_after more same own =
        let all = stray_more ts later t more same in
        let before = next.points.strays in
        let counts = counted own_there.0 own_there.1 in
        omega (arith, all, before, own, counts)

    -- a transaction that isn't ok reads nothing
    no_strays : is_ok t ≡ false → strays_in later t ≡ unwritten users.writers own_there.0.reads
    no_strays not_ok =
        reads_nothing later t not_ok
        ∙ sym (ap (unwritten users.writers) (reads_none later after users next.kept known_users place t own_there.0 changed.at own_there.1 not_ok))

    bound_by :
        ((k : ℕ) → ¬ (k ≡ place) → k < length ts → slice_index points k ≤ slice_index p.points k)
        → BoundAll after.accesses points users.bounds
    bound_by lower = bound_after events event before after p points users place t next.points next.rules next.kept next.others changed grown bounds lower bound_own

    floor_by :
        ((k : ℕ) → ¬ (k ≡ place) → k < length ts → (slice_index points k ≡ slice_index p.points k) ⊎ IsFloored after.accesses points users.floors k)
        → FloorAll after.accesses points users.floors
    floor_by fell = floor_after events event before after p points users place t next.points next.rules next.kept next.others changed grown floors fell floor_own

  -- ---- an invocation

  begun : is_invoke event.kind ≡ true → BeginsOne (length events) event (Some place) ts later → Has
  begun invokes begins =
      has_points events event before after p points users place t next.points next.rules next.kept next.others changed grown strays
      (bound_by t changed (λ k differ within. let is = same_at k within in omega (arith, is)))
      (floor_by t changed (λ k differ within. inl (same_at k within)))
      (clean_after events event before after p points users place t next.points next.rules next.kept next.others changed grown
      (λ v read. absurd (false≢true (reader_is_ok t v read)))
      (λ v k u w at read was unfailed installed. absurd (not_before w was))
      (λ v k u at read nobody. unread v k u at read))
      (strays_after t changed (ap (total (strays_in later)) begins.listed ∙ total_more (strays_in later) ts t) same_written (no_strays t changed refl))
      count
      (points_stay events event before after p points users place t next.points next.rules next.kept next.others changed grown same a.0 a.1 (by.0 a.0 a.1) refl
      (λ point are. stay_at_unread_invocation Basic events event (is_invocation event.kind invokes) nothing_read point are))
    where
      t : Transaction
      t = transaction_by (length events) event None

      changed : IsChanged (length events) ts later place t
      changed = changed_by_begin (length events) event place ts later begins

      by : IsUnreadAt users view.run place × ((point : ℕ) × (points ≡ p.points ++ point ∷ []))
      by = advance t changed.at

      a : (a : TxnAccesses) × (slice_get after.accesses place ≡ Some a)
      a = own_accesses events event before after p points users place t next.points next.rules next.kept next.others changed grown

      end : place ≡ length ts
      end = same_Some place (length ts) begins.last

      not_before : (w : Transaction) → slice_get ts place ≡ Some w → ⊥
      not_before w was = let within = slice_get_within ts place w was in omega (arith, within, end)

      count : length points ≡ length later
      count =
          let first : length points ≡ length p.points + 1 = ap length by.1.1 ∙ length-append p.points (by.1.0 ∷ []) in
          let second : length later ≡ length ts + 1 = ap length begins.listed ∙ length-append ts (t ∷ []) in
          let had = next.points.count in
          omega (arith, first, second, had)

      same_at : (k : ℕ) → k < length ts → slice_index points k ≡ slice_index p.points k
      same_at k within =
          let had = next.points.count in
          ap (λ (xs : List ℕ). slice_index xs k) by.1.1 ∙ get_or_append_left p.points (by.1.0 ∷ []) 0 k (omega (arith, within, had))

      same : (u : Transaction) (k : ℕ) → ¬ (k ≡ place) → slice_get ts k ≡ Some u → slice_index points k ≡ slice_index p.points k
      same u k differ at = same_at k (slice_get_within ts k u at)

      unread : (v : Version) (k : ℕ) (u : Transaction) → slice_get later k ≡ Some u → is_known_to_read u v ≡ true → writes t v ≡ false
      unread v k u at read =
          false_from_ne_true (writes t v) (λ wrote.
          unread_by events event before after p points users place t next.points next.rules next.kept next.others changed grown a.0 a.1 (by.0 a.0 a.1) k u v at read wrote)

      same_written : (u : Transaction) (v : Version) → In u ts → is_known_to_read u v ≡ true → is_written later v ≡ is_written ts v
      same_written u v i read =
          let (k, at) = place_in ts u i in
          let within = slice_get_within ts k u at in
          let differ : ¬ (k ≡ place) = λ e. absurd (omega (arith, within, e, end)) in
          ap (list_any (λ writer. writes writer v)) begins.listed
          ∙ any_more (λ writer. writes writer v) ts t (unread v k u (changed.still k u differ at) read)

      nothing_read : WritesNothingRead ts event
      nothing_read u v among read =
          let (k, at) = place_in ts u (in_from_Contains u ts among) in
          let within = slice_get_within ts k u at in
          let differ : ¬ (k ≡ place) = λ e. absurd (omega (arith, within, e, end)) in
          false_from_ne_true (has_version (map version_of (writes_of event.mops)) v) (λ wrote.
          unread_by events event before after p points users place t next.points next.rules next.kept next.others changed grown a.0 a.1 (by.0 a.0 a.1) k u v (changed.still k u differ at) read wrote)

  -- ---- a completion

  module _ (ends : is_invoke event.kind ≡ false) (done : CompletesOne (length events) event place ts later) where
    abbrev pub own : Transaction
    own = completed done.was (length events) event

    changed_own : IsChanged (length events) ts later place own
    changed_own = changed_by_end (length events) event place ts later done

    same_writes : writes_of own.mops ≡ writes_of done.was.mops
    same_writes = (done.repeats events refl ((kept_by_both [] events (event ∷ [])).0 next.rules).1).writes

    still_installs : (w : Transaction) (v : Version) → slice_get ts place ≡ Some w → installs w v ≡ true → installs own v ≡ true
    still_installs w v at installed =
        let is : w ≡ done.was = same_Some w done.was (sym at ∙ done.there) in
        subst (λ ws. has_version (map version_of (last_writes ws)) v ≡ true) (ap (λ (x : Transaction). writes_of x.mops) is ∙ sym same_writes) installed

    by_status : (s : Status) → status_by event.kind ≡ s → AdvancesBy s p.points view falls place
    by_status s e = subst (λ s. AdvancesBy s p.points view falls place) e (advance own changed_own.at)

    same_length : length later ≡ length ts
    same_length = ap length done.listed ∙ length-set ts place own

    writes_same : (v : Version) → writes own v ≡ writes done.was v
    writes_same v = ap (λ ws. has_version (map version_of ws) v) same_writes

    unwritten_still : (v : Version) → NobodyWrote ts v → writes own v ≡ false
    unwritten_still v nobody =
        writes_same v ∙ All-contains (λ w. IsFalse (writes w v)) ts done.was nobody (Contains_from_in done.was ts (in_at ts place done.was done.there))

    strays_more : strays_in later own ≡ unwritten users.writers (own_there own changed_own).0.reads → stray later ≡ strays
    strays_more =
        strays_after own changed_own
        (ap (total (strays_in later)) done.listed
        ∙ total_set (strays_in later) ts place own done.was done.there (reads_nothing later done.was (ap is_ok_status done.unended)))
        (λ u v i read.
        ap (list_any (λ writer. writes writer v)) done.listed
        ∙ any_set (λ writer. writes writer v) ts place own done.was done.there (writes_same v))

    not_ok_reads : is_ok own ≡ false → (v : Version) → is_known_to_read own v ≡ true → IsCleanRead later own v
    not_ok_reads not_ok v read = absurd (false≢true (sym not_ok ∙ reader_is_ok own v read))

    -- points stay where they are
    listed_still : (point : ℕ → ℕ) → points ≡ p.points → AreListed ts p.points point → AreListed later points point
    listed_still point same listed k u at =
        elim (same_or_not k place) [
          | inl here ↦ (
              let is : own ≡ u = same_Some own u (sym changed_own.at ∙ ap (slice_get later) (sym here) ∙ at) in
              let was : point own.invocation ≡ slice_index p.points place = listed place done.was done.there in
              ap (λ (x : Transaction). point x.invocation) (sym is) ∙ was ∙ ap (slice_index p.points) (sym here) ∙ ap (λ (xs : List ℕ). slice_index xs k) (sym same))
          | inr differ ↦ listed k u (changed_own.other k u differ at) ∙ ap (λ (xs : List ℕ). slice_index xs k) (sym same)
        ]

    points_at_end : (event.kind ≡ kinds.Fail) ⊎ (event.kind ≡ kinds.Info) → points ≡ p.points → (point : ℕ → ℕ) × AreListed later points point × ArePoints Basic later point
    points_at_end kind same =
        let (point, listed, are) = next.points.are_points in
        (point, listed_still point same listed, stay_at_end Basic events event kind point are)

    fails : event.kind ≡ kinds.Fail → Has
    fails e =
        let (unread, same) = by_status Fail (ap status_by e) in
        let not_ok : is_ok own ≡ false = ap (λ k. is_ok_status (status_by k)) e in
        let (a, there) = own_accesses events event before after p points users place own next.points next.rules next.kept next.others changed_own grown in
        has_points events event before after p points users place own next.points next.rules next.kept next.others changed_own grown strays
        (bound_by own changed_own (λ k differ within. let is = ap (λ (xs : List ℕ). slice_index xs k) same in omega (arith, is)))
        (floor_by own changed_own (λ k differ within. inl (ap (λ (xs : List ℕ). slice_index xs k) same)))
        (clean_after events event before after p points users place own next.points next.rules next.kept next.others changed_own grown
        (not_ok_reads not_ok)
        (λ v k u w at read was unfailed installed.
        absurd (unread_by events event before after p points users place own next.points next.rules next.kept next.others changed_own grown a there (unread a there) k u v at read
        (installs_writes own v (still_installs w v was installed))))
        (λ v k u at read nobody. unwritten_still v nobody))
        (strays_more (no_strays own changed_own not_ok))
        (ap length same ∙ next.points.count ∙ sym same_length)
        (points_at_end (inl e) same)

    informs : event.kind ≡ kinds.Info → Has
    informs e =
        let same : points ≡ p.points = by_status Info (ap status_by e) in
        let not_ok : is_ok own ≡ false = ap (λ k. is_ok_status (status_by k)) e in
        has_points events event before after p points users place own next.points next.rules next.kept next.others changed_own grown strays
        (bound_by own changed_own (λ k differ within. let is = ap (λ (xs : List ℕ). slice_index xs k) same in omega (arith, is)))
        (floor_by own changed_own (λ k differ within. inl (ap (λ (xs : List ℕ). slice_index xs k) same)))
        (clean_after events event before after p points users place own next.points next.rules next.kept next.others changed_own grown
        (not_ok_reads not_ok)
        (λ v k u w at read was unfailed installed. (ap (λ k. is_fail_status (status_by k)) e, still_installs w v was installed))
        (λ v k u at read nobody. unwritten_still v nobody))
        (strays_more (no_strays own changed_own not_ok))
        (ap length same ∙ next.points.count ∙ sym same_length)
        (points_at_end (inr e) same)

    own_clean : IsCleanAt view place → (v : Version) → is_known_to_read own v ≡ true → IsCleanRead later own v
    own_clean clean v read =
        let (a, there) = own_accesses events event before after p points users place own next.points next.rules next.kept next.others changed_own grown in
        let (x, i, number) = read_access later after next.kept place own a changed_own.at there v read in
        elim (All-contains (IsClean later after.accesses users.writers a.writes) a.reads x (clean a there) (Contains_from_in x a.reads i)) [
          | inl same ↦ (
              let is : v ≡ nil_of v.key = same_Some v (nil_of v.key) (sym number.1 ∙ ap (slice_get after.versions) same ∙ number.0) in
              inl (ap (λ (u : Version). u.value) is))
          | inr (inl (k, (u, b, at, has, unfailed, installs_it))) ↦
              inr (inl (u, Contains_from_in u later (in_at later k u at), unfailed, installs_number later after k u b x.version v next.kept at has installs_it number.1))
          | inr (inr (inr has)) ↦ inr (inr (inr (writes_itself later after next.kept place own a changed_own.at there x.version v number.1 has)))
          | inr (inr (inl none)) ↦
              inr (inr (inl (all_in (λ w. IsFalse (writes w v)) later (nobody_listed later after users next.kept (known_users own changed_own) x.version v number.1 none))))
        ]

    is_done : event.kind ≡ kinds.Ok → Has
    is_done e =
        let (clean, fall) = by_status Ok (ap status_by e) in
        let count = fall.0 in
        let bound = bound_by own changed_own (λ k differ within. (fall.1 k).0) in
        let floored = floor_by own changed_own (λ k differ within. elim (fall.1 k).1 [
          | inl same ↦ inl same
          | inr (i, below, is) ↦ inr (subst (λ n. IsFloored after.accesses points users.floors n) is (fall.3 i below))
        ]) in
        let (a, there) = own_there own changed_own in
        has_points events event before after p points users place own next.points next.rules next.kept next.others changed_own grown strays
        bound
        floored
        (clean_after events event before after p points users place own next.points next.rules next.kept next.others changed_own grown
        (own_clean clean)
        (λ v k u w at read was unfailed installed. (ap (λ k. is_fail_status (status_by k)) e, still_installs w v was installed))
        (λ v k u at read nobody. unwritten_still v nobody))
        (strays_more (strays_counted later after users next.kept (known_users own changed_own) place own a changed_own.at there (clean a there)))
        (count ∙ next.points.count ∙ sym same_length)
        (points_fall events event before after p points users place own next.points next.rules next.kept next.others changed_own grown lists falls (ap (λ k. is_ok_status (status_by k)) e) bound floored fall)

    completes_by : (kind : OpKind) → event.kind ≡ kind → Has
    completes_by kinds.Invoke e = absurd (false≢true (sym ends ∙ ap is_invoke e))
    completes_by kinds.Ok e = is_done e
    completes_by kinds.Fail e = fails e
    completes_by kinds.Info e = informs e

  pub advanced : Has
  advanced = elim (begins_or_completes (length events) event place ts later next.change) [
    | inl (invokes, begins) ↦ begun invokes begins
    | inr (ends, done) ↦ completes_by ends done event.kind refl
  ]

-- the users after their bounds have changed
pub still_advanced :
    (points : List ℕ) (before middle after : Users) (accesses : List TxnAccesses) (place : ℕ)
    → UsersAdvance before middle accesses place
    → HasSettled points middle after accesses place
    → UsersAdvance before after accesses place
still_advanced points before middle after accesses place grown settled = record {
  stay = record {
    readers = λ n k listed. subst (λ lists. IsListed lists n k) (sym settled.readers) (grown.stay.readers n k listed);
    writers = λ n k listed. subst (λ lists. IsListed lists n k) (sym settled.writers) (grown.stay.writers n k listed);
    key_writers = λ n k listed. subst (λ lists. IsListed lists n k) (sym settled.key_writers) (grown.stay.key_writers n k listed);
    updaters = λ n k listed. subst (λ lists. IsListed lists n k) (sym settled.updaters) (grown.stay.updaters n k listed);
  };
  among = λ a there.
      let are = grown.among a there in record {
        readers = subst (λ lists. ListVersions lists place a.reads) (sym settled.readers) are.readers;
        writers = subst (λ lists. ListVersions lists place a.writes) (sym settled.writers) are.writers;
        key_writers = subst (λ lists. ListKeys lists place a.writes) (sym settled.key_writers) are.key_writers;
        updaters = subst (λ lists. ListUpdated lists place a.reads a.writes) (sym settled.updaters) are.updaters;
      };
  only = λ a there number other listed. grown.only a there number other (subst (λ lists. IsListed lists number other) settled.readers listed);
}

pub points_after :
    (events : List Operation) (event : Operation) (before after : KeptVersions) (p : BasicPoints) (points : List ℕ) (middle users : Users) (lists : StepLists) (strays : ℕ) (us : List Transaction)
    (falls : List Fall) (place : ℕ)
    → IsBasicNext events event before p us after place
    → UsersAdvance p.users middle after.accesses place
    → middle.bounds ≡ p.users.bounds
    → middle.floors ≡ p.users.floors
    → HasSettled points middle users after.accesses place
    → PointsAdvance p.points (view_of points users (run_of us after lists)) falls place
    → StraysAdvance p.strays strays users.writers after.accesses place
    → HasBasicPoints (events ++ event ∷ []) after (record { points = points; users = users; strays = strays })
points_after events event before after p points middle users lists strays us falls place next grown same level settled advance counted =
    advanced events event before after p points users lists strays falls place (subst (λ all. IsBasicNext events event before p all after place) next.txns next)
    (still_advanced points p.users middle users after.accesses place grown settled)
    (subst (λ bounds. AreBounds points users.readers bounds users.bounds) same settled.bounds)
    (subst (λ floors. AreFloors points users.key_writers floors users.floors) level settled.floors)
    settled.bound settled.floored
    (subst (λ all. PointsAdvance p.points (view_of points users (run_of all after lists)) falls place) next.txns advance) counted

pub next_place :
    (events : List Operation) (event : Operation) (before after : KeptVersions) (p : BasicPoints) (us : List Transaction) (place : ℕ)
    → IsBasicNext events event before p us after place
    → place < length us
next_place events event before after p us place next =
    elim (begins_or_completes (length events) event place (transactions_of events) us next.change) [
      | inl (invokes, begins) ↦
          slice_get_within us place (transaction_by (length events) event None) (changed_by_begin (length events) event place (transactions_of events) us begins).at
      | inr (ends, done) ↦
          slice_get_within us place (completed done.was (length events) event) (changed_by_end (length events) event place (transactions_of events) us done).at
    ]

-- ---- no events

no_transaction : (t : Transaction) → Contains [] t → ⊥
no_transaction t i = in_from_Contains t [] i

no_accesses : (keys : KeyOrder) (vs : List Version) (accesses : List TxnAccesses) → HaveAccesses keys vs [] accesses → accesses ≡ []
no_accesses keys vs [] are = refl
no_accesses keys vs (a ∷ accesses) are = absurd are

pub points_of_none : (kept : KeptVersions) (points : List ℕ) (users : Users) → AreKept [] kept → points ≡ [] → AreUsers [] users → HasBasicPoints [] kept (record { points = points; users = users; strays = 0 })
points_of_none kept points users are none used = record {
  rules = refl;
  versions = are;
  users = subst (λ accesses. AreUsers accesses users) (sym (no_accesses kept.keys kept.versions kept.accesses are.accesses)) used;
  bounds = λ place a there. absurd (none-some a (subst (λ accesses. slice_get accesses place ≡ Some a) (no_accesses kept.keys kept.versions kept.accesses are.accesses) there));
  floors = λ place a there. absurd (none-some a (subst (λ accesses. slice_get accesses place ≡ Some a) (no_accesses kept.keys kept.versions kept.accesses are.accesses) there));
  strays = refl;
  clean = λ t v i read. absurd (no_transaction t i);
  count = ap length none;
  are_points = (
    λ n. 0,
    λ k u at. absurd (none-some u at),
    by_points Basic [] (λ n. 0) (λ t i. absurd (no_transaction t i)) (λ t i. absurd (no_transaction t i)) (λ e i. absurd (in_from_Contains e [] i)),
  );
}
