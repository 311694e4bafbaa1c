-- The steps of a history's processes, kept while its run goes on.
use Rattle.std.specs.Prelude.{◌≡◌, ℕ, List, Contains}
use Rattle.hist_types.specs.Transactions.{Transaction, Version}
use Rattle.hist_types.specs.Versions.{VersionPair, seen_by, process_pairs}
use Rattle.hist_types.specs.declared.types.KeyOrder.TheVariants.{Sequential}
use Rattle.key_versions.specs.Kept.{KeptVersions}
use Rattle.key_versions.specs.LastSeen.{last_seen}
use Rattle.key_versions.specs.Stepped.{step_at, as_step, HasLastSeen}
use Rattle.serial_points.specs.Stepping.{AllStepsRise}
use Rattle.serial_points.specs.Steps.{HasStep, AreListedTwice}
use Rattle.serial_points.specs.Views.{run_of, view_of}
use Rattle.serial_points.specs.declared.steps.StepLists.{StepLists}
use Rattle.serial_points.specs.declared.steps.Steps.{Steps}
use Rattle.serial_points.specs.declared.users.Users.{Users}

-- one of the steps is between the versions of the pair
abbrev pub HasPair : List Version → StepLists → VersionPair → Type 0
HasPair versions lists p =
    (step : ℕ × ℕ) × (step_at versions step ≡ as_step p) × HasStep lists step

-- It is known what each process saw last of each key, each pair of versions that a process orders is
-- among the steps, and points rise along these.
pub record HasSteps (ts : List Transaction) (kept : KeptVersions) (points : List ℕ) (users : Users)
    (steps : Steps) : Type 0 where
  pub seen :
      (process : ℕ)
      → HasLastSeen kept.versions (seen_by process ts) (last_seen steps.seen process)
  pub there :
      (p : VersionPair)
      → Contains (process_pairs Sequential ts) p
      → HasPair kept.versions steps.lists p
  pub twice : AreListedTwice steps.lists
  pub rise : AllStepsRise (view_of points users (run_of ts kept steps.lists))
