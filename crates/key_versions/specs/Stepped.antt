-- The steps of a history's processes so far, by the numbers of versions.
use Rattle.std.specs.Prelude.{◌≡◌, ℕ, List, Option, Some, slice_get, map}
use Rattle.hist_types.specs.Transactions.{Transaction, Version}
use Rattle.hist_types.specs.Versions.{VersionPair, seen_by, process_pairs}
use Rattle.hist_types.specs.declared.types.KeyOrder.TheVariants.{Sequential}
use Rattle.key_versions.specs.declared.pending.Access.{Access}
use Rattle.key_versions.specs.Numbering.{AreAccesses}
use Rattle.key_versions.specs.Steps.{last_number}

-- a step with its versions, if they have these numbers, and a pair in the same form
abbrev pub step_at : List Version → ℕ × ℕ → Option Version × Option Version
step_at versions step = (slice_get versions step.0, slice_get versions step.1)

abbrev pub as_step : VersionPair → Option Version × Option Version
as_step p = (Some p.later, Some p.earlier)

-- a process saw these versions of keys last
abbrev pub HasLastSeen : List Version → List Version → (ℕ → Option ℕ) → Type 0
HasLastSeen versions seen last =
    (accesses : List Access)
    × AreAccesses versions seen accesses
    × ((nil : ℕ) → last nil ≡ last_number nil accesses)

-- these are the steps of the pairs
abbrev pub AreStepsAs : List Version → List VersionPair → List (ℕ × ℕ) → Type 0
AreStepsAs versions pairs steps = map (step_at versions) steps ≡ map as_step pairs

-- what each process saw last of each key, and the steps that were taken
pub record AreStepsOf (versions : List Version) (ts : List Transaction)
    (last : ℕ → ℕ → Option ℕ) (taken : List (ℕ × ℕ)) : Type 0 where
  pub seen : (process : ℕ) → HasLastSeen versions (seen_by process ts) (last process)
  pub steps : AreStepsAs versions (process_pairs Sequential ts) taken
