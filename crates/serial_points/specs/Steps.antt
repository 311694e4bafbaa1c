-- Steps of processes from one version of a key to another, kept by number of version while a run
-- goes on. A step is written with its later version first.
--
-- The lists may have more steps than the processes took: it is enough that none is left out.
use Rattle.std.specs.Prelude.{◌≡◌, ◌⊎◌, ℕ, List, Contains, slice_get, Some, None, All, IsTrue, IsFalse}
use Rattle.hist_types.specs.Transactions.{Transaction, is_ok}
use Rattle.key_versions.specs.LastSeen.{last_seen}
use Rattle.key_versions.specs.Steps.{seen_after, firsts, steps_to}
use Rattle.key_versions.specs.TxnAccesses.{TxnAccesses}
use Rattle.serial_points.specs.Users.{IsListed, StayListed}
use Rattle.serial_points.specs.declared.steps.StepLists.{StepLists}
use Rattle.serial_points.specs.declared.steps.Steps.{Steps}

abbrev pub HasStep : StepLists → ℕ × ℕ → Type 0
HasStep lists step = IsListed lists.earlier step.0 step.1

-- each step is listed at its earlier version, too
abbrev pub AreListedTwice : StepLists → Type 0
AreListedTwice lists =
    (later earlier : ℕ) → HasStep lists (later, earlier) → IsListed lists.later earlier later

-- the steps and this one, which is fresh if it wasn't there
pub record AddsStep (before after : StepLists) (step : ℕ × ℕ) : Type 0 where
  pub stay_earlier : StayListed before.earlier after.earlier
  pub stay_later : StayListed before.later after.later
  pub stay_fresh : (s : ℕ × ℕ) → Contains before.fresh.items s → Contains after.fresh.items s
  pub there : HasStep after step
  pub only :
      (s : ℕ × ℕ)
      → HasStep after s
      → HasStep before s ⊎ (Contains after.fresh.items s × IsListed after.later s.1 s.0)

-- the steps and these
pub record AddSteps (before after : StepLists) (steps : List (ℕ × ℕ)) : Type 0 where
  pub stay_earlier : StayListed before.earlier after.earlier
  pub stay_later : StayListed before.later after.later
  pub there : All (HasStep after) steps
  pub only :
      (s : ℕ × ℕ)
      → HasStep after s
      → HasStep before s ⊎ (Contains after.fresh.items s × IsListed after.later s.1 s.0)

-- no process has seen a version, and there is no step
pub record AreNoSteps (steps : Steps) : Type 0 where
  pub seen : (process nil : ℕ) → last_seen steps.seen process nil ≡ None
  pub none : (s : ℕ × ℕ) → ¬ HasStep steps.lists s

-- the process took the steps of an ok transaction with these accesses
pub record IsStepped (before after : Steps) (process : ℕ) (a : TxnAccesses) : Type 0 where
  pub seen :
      (one nil : ℕ)
      → last_seen after.seen one nil
      ≡ seen_after process a.seen one nil (last_seen before.seen one nil)
  pub lists :
      AddSteps before.lists after.lists
      (steps_to (last_seen before.seen process) (firsts a.reads a.writes))

-- so it is if the transaction at the place is ok, and else nothing changes
pub record StepsAdvance (before after : Steps) (ts : List Transaction)
    (accesses : List TxnAccesses) (place : ℕ) : Type 0 where
  pub stepped :
      (t : Transaction) (a : TxnAccesses)
      → slice_get ts place ≡ Some t
      → slice_get accesses place ≡ Some a
      → IsTrue (is_ok t)
      → IsStepped before after t.process a
  pub same_seen :
      (t : Transaction)
      → slice_get ts place ≡ Some t
      → IsFalse (is_ok t)
      → after.seen ≡ before.seen
  pub same_earlier :
      (t : Transaction)
      → slice_get ts place ≡ Some t
      → IsFalse (is_ok t)
      → after.lists.earlier ≡ before.lists.earlier
  pub same_later :
      (t : Transaction)
      → slice_get ts place ≡ Some t
      → IsFalse (is_ok t)
      → after.lists.later ≡ before.lists.later
