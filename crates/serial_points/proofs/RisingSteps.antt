-- Points that rise along the steps of processes, over numbers alone, after one more event.
use Rattle.std.proofs.Common.{◌≡◌, ◌⊎◌, inl, inr, ℕ, ◌<◌, ◌≤◌, ◌==◌, ◌&&◌, not, List, ◌∷◌, [], length, true, false, Some, All, Contains, slice_index, arith, sym, ◌∙◌, ap, subst}
use Rattle.std.specs.Prelude.{slice_get}
use Rattle.std.proofs.lemmas.Bool.{and_parts, cases_Bool, eqb-false, eqb-true, false≢true, not-true}
use Rattle.std.proofs.lemmas.List.{get_or_append_left}
use Rattle.std.proofs.lemmas.List.Elements.{All-contains}
use Rattle.std.proofs.lemmas.Option.{slice_get_within}
use Rattle.hist_types.specs.Transactions.{Transaction, Status, Ok, Fail, Info, Open, is_ok}
use Rattle.hist_types.proofs.Members.{in_from_Contains, Contains_from_in}
use Rattle.history_laws.proofs.ThinningPaths.{some_passes}
use Rattle.key_versions.specs.Kept.{StayBeside}
use Rattle.key_versions.specs.TxnAccesses.{TxnAccesses}
use Rattle.key_versions.specs.declared.pending.Access.{Access}
use Rattle.clean_order.specs.AtVersions.{IsLowerIfOther}
use Rattle.clean_order.specs.Accesses.{updates}
use Rattle.serial_points.specs.Bounds.{BoundAll}
use Rattle.serial_points.specs.Falls.{IsAmong}
use Rattle.serial_points.specs.KeptPoints.{AdvancesBy, PointsAdvance}
use Rattle.serial_points.specs.Stepping.{has_install, IsNoNode, IsLowerUnlessLeftOut, AboveUsers, IsAboveStepsTo, IsHigherUnlessLeftOut, BelowInstallers, BelowReadSteps, IsBelowStepsFrom, IsBelowUnlessOk, WritersPassSteps, IsAboveStep, StepRises, StepsPass, HasReader, Uses, AllStepsRise}
use Rattle.serial_points.specs.Steps.{HasStep, AreListedTwice, StepsAdvance}
use Rattle.serial_points.specs.Views.{PointsView}
use Rattle.serial_points.specs.Users.{places_at, IsListed, HasAccess, ListOnlyVersions, AreUsers}
use Rattle.serial_points.specs.declared.falls.Fall.{Fall}
use Rattle.serial_points.specs.declared.steps.Steps.{Steps}
use Rattle.serial_points.proofs.Changed.{same_or_not}
use Rattle.serial_points.proofs.Unbounded.{reader_lower}

-- ---- users

install_access :
    (version : ℕ) (writes : List Access)
    → has_install version writes ≡ true
    → (x : Access) × Contains writes x × (x.version ≡ version) × (updates writes x ≡ false)
install_access version writes has =
    let (x, i, both) = some_passes (λ (write : Access). write.version == version && not (updates writes write)) writes has in
    let (same, last) = and_parts (x.version == version) (not (updates writes x)) both in
    (x, Contains_from_in x writes i, eqb-true x.version version same, not-true (updates writes x) last)

module _ (p : PointsView) (used : AreUsers p.run.accesses p.users) (bound : BoundAll p.run.accesses p.points p.users.bounds) where
  writer_there :
      (version k : ℕ) (b : TxnAccesses)
      → slice_get p.run.accesses k ≡ Some b
      → has_install version b.writes ≡ true
      → IsListed p.users.writers version k
  writer_there version k b there has =
      let (x, i, is, last) = install_access version b.writes has in
      subst (λ n. IsListed p.users.writers n k) is (All-contains (λ (y : Access). IsListed p.users.writers y.version k) b.writes x (used k b there).writers i)

  not_both :
      (k : ℕ) (t : Transaction) (a : TxnAccesses)
      → slice_get p.run.txns k ≡ Some t
      → slice_get p.run.accesses k ≡ Some a
      → IsNoNode p.users p.run k
      → (is_ok t ≡ true) ⊎ HasReader p.users.readers a.writes
      → ⊥
  not_both k t a at there outside (inl ok) = false≢true (sym (outside.not_ok t at) ∙ ok)
  not_both k t a at there outside (inr (x, reader, i, listed)) =
      let none = All-contains (λ (y : Access). places_at p.users.readers y.version ≡ []) a.writes x (outside.unread a there) i in
      in_from_Contains reader [] (subst (λ places. Contains places reader) none listed)

  -- a node that reads or installs the version has a lower point
  lower_user :
      (version k first : ℕ) (t : Transaction) (a : TxnAccesses)
      → AboveUsers p k version
      → slice_get p.run.txns first ≡ Some t
      → slice_get p.run.accesses first ≡ Some a
      → Uses p.users t a version
      → IsLowerIfOther p.points first k
  lower_user version k first t a above at there (inl (x, i, is)) = reader_lower p.run.accesses p.points p.users k first version a x used bound above.readers there i is
  lower_user version k first t a above at there (inr (installed, node)) =
      elim (All-contains (IsLowerUnlessLeftOut p k version) (places_at p.users.writers version) first above.installers (writer_there version first a there installed)) [
        | inl lower ↦ lower
        | inr (inl none) ↦ absurd (false≢true (sym (none a there) ∙ installed))
        | inr (inr outside) ↦ absurd (not_both first t a at there outside node)
      ]

  module _ (later earlier : ℕ) where
    lower_by_step :
        (k first : ℕ) (t : Transaction) (a : TxnAccesses) (writes : List Access)
        → HasStep p.run.lists (later, earlier)
        → All (IsAboveStepsTo p k writes) writes
        → has_install later writes ≡ true
        → slice_get p.run.txns first ≡ Some t
        → slice_get p.run.accesses first ≡ Some a
        → Uses p.users t a earlier
        → IsLowerIfOther p.points first k
    lower_by_step k first t a writes step above has at there uses =
        let (x, i, is, last) = install_access later writes has in
        let all = All-contains (IsAboveStepsTo p k writes) writes x above i last in
        lower_user earlier k first t a
        (All-contains (AboveUsers p k) (places_at p.run.lists.earlier x.version) earlier all (subst (λ n. IsListed p.run.lists.earlier n earlier) (sym is) step))
        at there uses

    module _ (twice : IsListed p.run.lists.later earlier later) (k second : ℕ) (b : TxnAccesses) (there : slice_get p.run.accesses second ≡ Some b) (installed : has_install later b.writes ≡ true) where
      higher_by_step : All (BelowInstallers p k) (places_at p.run.lists.later earlier) → IsLowerIfOther p.points k second
      higher_by_step all =
          let one = All-contains (BelowInstallers p k) (places_at p.run.lists.later earlier) later all twice in
          elim (All-contains (IsHigherUnlessLeftOut p k later) (places_at p.users.writers later) second one (writer_there later second b there installed)) [
            | inl lower ↦ lower
            | inr none ↦ absurd (false≢true (sym (none b there) ∙ installed))
          ]

      higher_by_read : (reads : List Access) → BelowReadSteps p k reads → HasAccess reads earlier → IsLowerIfOther p.points k second
      higher_by_read reads below (x, i, is) =
          higher_by_step
          (subst (λ n. All (BelowInstallers p k) (places_at p.run.lists.later n)) is
          (All-contains (λ (y : Access). All (BelowInstallers p k) (places_at p.run.lists.later y.version)) reads x below i))

      higher_by_install : (writes : List Access) → All (IsBelowStepsFrom p k writes) writes → has_install earlier writes ≡ true → IsLowerIfOther p.points k second
      higher_by_install writes below has =
          let (x, i, is, last) = install_access earlier writes has in
          higher_by_step
          (subst (λ n. All (BelowInstallers p k) (places_at p.run.lists.later n)) is
          (All-contains (IsBelowStepsFrom p k writes) writes x below i last))

-- ---- points that fell

-- no point of those before rose, and none fell but those at the places of the falls
abbrev pub FallBeside : (before after : List ℕ) → List Fall → Type 0
FallBeside before after falls =
    (other : ℕ)
    → other < length before
    → (slice_index after other ≤ slice_index before other) × ((slice_index after other ≡ slice_index before other) ⊎ IsAmong falls (length falls) other)

module _ (before : List ℕ) (p : PointsView) (falls : List Fall) (place : ℕ) where
  fall_by : (s : Status) → AdvancesBy s before p falls place → FallBeside before p.points falls
  fall_by Open (unread, (point, is)) other within =
      let same : slice_index p.points other ≡ slice_index before other = ap (λ (xs : List ℕ). slice_index xs other) is ∙ get_or_append_left before (point ∷ []) 0 other within in
      (omega (arith, same), inl same)
  fall_by Fail (unread, is) other within =
      let same : slice_index p.points other ≡ slice_index before other = ap (λ (xs : List ℕ). slice_index xs other) is in
      (omega (arith, same), inl same)
  fall_by Info is other within =
      let same : slice_index p.points other ≡ slice_index before other = ap (λ (xs : List ℕ). slice_index xs other) is in
      (omega (arith, same), inl same)
  fall_by Ok (clean, (count, fallen, passes, floored)) other within = fallen other

  pub fall_beside : (t : Transaction) → slice_get p.run.txns place ≡ Some t → PointsAdvance before p falls place → FallBeside before p.points falls
  fall_beside t at advance = fall_by t.status (advance t at)

-- ---- steps

module _ (before after : Steps) (ts : List Transaction) (accesses : List TxnAccesses) (place : ℕ) (t : Transaction) (a : TxnAccesses)
    (at : slice_get ts place ≡ Some t) (there : slice_get accesses place ≡ Some a) (advance : StepsAdvance before after ts accesses place) where
  -- a step was there, or is a fresh one, which is listed twice
  pub there_or_fresh :
      (s : ℕ × ℕ)
      → HasStep after.lists s
      → HasStep before.lists s ⊎ (Contains after.lists.fresh.items s × IsListed after.lists.later s.1 s.0)
  there_or_fresh s has = elim (cases_Bool (is_ok t)) [
    | inl ok ↦ (advance.stepped t a at there ok).lists.only s has
    | inr not_ok ↦ inl (subst (λ lists. IsListed lists s.0 s.1) (advance.same_earlier t at not_ok) has)
  ]

  still_later : (n m : ℕ) → IsListed before.lists.later n m → IsListed after.lists.later n m
  still_later n m listed = elim (cases_Bool (is_ok t)) [
    | inl ok ↦ (advance.stepped t a at there ok).lists.stay_later n m listed
    | inr not_ok ↦ subst (λ lists. IsListed lists n m) (sym (advance.same_later t at not_ok)) listed
  ]

  pub still_steps : (s : ℕ × ℕ) → HasStep before.lists s → HasStep after.lists s
  still_steps s listed = elim (cases_Bool (is_ok t)) [
    | inl ok ↦ (advance.stepped t a at there ok).lists.stay_earlier s.0 s.1 listed
    | inr not_ok ↦ subst (λ lists. IsListed lists s.0 s.1) (sym (advance.same_earlier t at not_ok)) listed
  ]

  pub still_twice : AreListedTwice before.lists → AreListedTwice after.lists
  still_twice twice later earlier has = elim (there_or_fresh (later, earlier) has) [
    | inl was ↦ still_later earlier later (twice later earlier was)
    | inr (fresh, listed) ↦ listed
  ]

-- ---- points rise along them

module _ (old new : PointsView) (falls : List Fall) (place : ℕ) (own : TxnAccesses)
    (here : slice_get new.run.accesses place ≡ Some own)
    (used : AreUsers new.run.accesses new.users) (bound : BoundAll new.run.accesses new.points new.users.bounds)
    (only_readers : ListOnlyVersions old.users.readers new.users.readers place own.reads)
    (stay : (k : ℕ) (u : Transaction) → ¬ (k ≡ place) → slice_get new.run.txns k ≡ Some u → slice_get old.run.txns k ≡ Some u)
    (others : StayBeside place old.run.accesses new.run.accesses)
    (passes : StepsPass new falls place) where
  -- whoever uses the version did so before, or the event made it a node, which is below its own steps
  used_before :
      (version first : ℕ) (t : Transaction) (a : TxnAccesses)
      → ¬ (first ≡ place)
      → slice_get new.run.txns first ≡ Some t
      → slice_get new.run.accesses first ≡ Some a
      → Uses new.users t a version
      → Uses old.users t a version ⊎ ((has_install version a.writes ≡ true) × All (IsBelowStepsFrom new first a.writes) a.writes)
  used_before version first t a other at there (inl read) = inl (inl read)
  used_before version first t a other at there (inr (installed, inl ok)) = inl (inr (installed, inl ok))
  used_before version first t a other at there (inr (installed, inr (x, reader, i, listed))) = elim (only_readers x.version reader listed) [
    | inl there_before ↦ inl (inr (installed, inr (x, reader, i, there_before)))
    | inr (is, (r, j, same)) ↦
        elim (All-contains (λ (y : Access). WritersPassSteps new place y.version) own.reads r (passes.new_nodes own here) j) [
          | inl has ↦ (
              let (another, listed_too, differ) = some_passes (λ other. not (other == place)) (places_at new.users.readers r.version) has in
              elim (only_readers r.version another (Contains_from_in another (places_at new.users.readers r.version) listed_too)) [
                | inl there_before ↦ inl (inr (installed, inr (x, another, i, subst (λ n. IsListed old.users.readers n another) same there_before)))
                | inr (is_own, among) ↦ absurd (eqb-false another place (not-true (another == place) differ) is_own)
              ])
          | inr all ↦ (
              let wrote : IsListed new.users.writers x.version first = All-contains (λ (y : Access). IsListed new.users.writers y.version first) a.writes x (used first a there).writers i in
              elim (All-contains (IsBelowUnlessOk new) (places_at new.users.writers r.version) first all (subst (λ n. IsListed new.users.writers n first) (sym same) wrote)) [
                | inl ok ↦ inl (inr (installed, inl (ok t at)))
                | inr below ↦ inr (installed, below a there)
              ])
        ]
  ]

  pub still_rise :
      length old.run.accesses ≡ length old.points
      → FallBeside old.points new.points falls
      → AreListedTwice new.run.lists
      → ((s : ℕ × ℕ) → HasStep new.run.lists s → HasStep old.run.lists s ⊎ (Contains new.run.lists.fresh.items s × IsListed new.run.lists.later s.1 s.0))
      → AllStepsRise old
      → AllStepsRise new
  still_rise count fall twice only rise later earlier first second t a b step at there uses there_second installed =
      elim (same_or_not second place) [
        | inl own_second ↦
            lower_by_step new used bound later earlier second first t a b.writes step
            (subst (λ n. All (IsAboveStepsTo new n b.writes) b.writes) (sym own_second) (passes.own b (subst (λ n. slice_get new.run.accesses n ≡ Some b) own_second there_second)))
            installed at there uses
        | inr differ ↦ elim (fall second (within second b differ there_second)).1 [
          | inr (i, below, is) ↦
              lower_by_step new used bound later earlier second first t a b.writes step
              (subst (λ n. All (IsAboveStepsTo new n b.writes) b.writes) is (passes.fallen i below b (subst (λ n. slice_get new.run.accesses n ≡ Some b) (sym is) there_second)))
              installed at there uses
          | inl same ↦ elim (same_or_not first place) [
            | inl own_first ↦ of_own own_first
            | inr other ↦ elim (used_before earlier first t a other at there uses) [
              | inr (installs_it, below) ↦
                  higher_by_install new used bound later earlier (twice later earlier step) first second b there_second installed a.writes below installs_it
              | inl used_it ↦ elim (only (later, earlier) step) [
                | inl there_before ↦ (λ apart.
                    let less = rise later earlier first second t a b there_before (stay first t other at) (others first a other there) used_it (others second b differ there_second) installed apart in
                    let fell = (fall first (within first a other there)).0 in
                    omega (arith, less, fell, same))
                | inr (fresh, listed) ↦
                    elim (All-contains (IsAboveStep new (later, earlier)) (places_at new.users.writers later) second
                    (All-contains (StepRises new) new.run.lists.fresh.items (later, earlier) passes.fresh fresh)
                    (writer_there new used bound later second b there_second installed)) [
                      | inl above ↦ lower_user new used bound earlier second first t a above at there uses
                      | inr none ↦ absurd (false≢true (sym (none b there_second) ∙ installed))
                    ]
              ]
            ]
          ]
        ]
      ]
    where
      within : (k : ℕ) (c : TxnAccesses) → ¬ (k ≡ place) → slice_get new.run.accesses k ≡ Some c → k < length old.points
      within k c differ get = let inside = slice_get_within old.run.accesses k c (others k c differ get) in omega (arith, inside, count)

      of_own : first ≡ place → IsLowerIfOther new.points first second
      of_own own_first =
          let its : slice_get new.run.accesses place ≡ Some a = subst (λ n. slice_get new.run.accesses n ≡ Some a) own_first there in
          elim uses [
            | inl read ↦
                higher_by_read new used bound later earlier (twice later earlier step) first second b there_second installed a.reads
                (subst (λ n. BelowReadSteps new n a.reads) (sym own_first) (passes.reads a its)) read
            | inr (installs_it, node) ↦
                elim passes.writes [
                  | inl outside ↦ absurd (not_both new used bound first t a at there (subst (IsNoNode new.users new.run) (sym own_first) outside) node)
                  | inr below ↦
                      higher_by_install new used bound later earlier (twice later earlier step) first second b there_second installed a.writes
                      (subst (λ n. All (IsBelowStepsFrom new n a.writes) a.writes) (sym own_first) (below a its)) installs_it
                ]
          ]
