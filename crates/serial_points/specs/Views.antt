-- What points are looked at by.
use Rattle.std.specs.Prelude.{◌≡◌, ℕ, List, slice_get, Some}
use Rattle.hist_types.specs.Transactions.{Transaction}
use Rattle.key_versions.specs.Kept.{KeptVersions}
use Rattle.key_versions.specs.TxnAccesses.{TxnAccesses}
use Rattle.serial_points.specs.declared.steps.StepLists.{StepLists}
use Rattle.serial_points.specs.declared.users.Users.{Users}

-- a run so far: by place its transactions with what they read and write, and by number of version
-- the steps of its processes
pub record LiveRun : Type 0 where
  pub txns : List Transaction
  pub accesses : List TxnAccesses
  pub lists : StepLists

abbrev pub run_of : List Transaction → KeptVersions → StepLists → LiveRun
run_of ts kept lists = record { txns = ts; accesses = kept.accesses; lists = lists }

-- it is known what the transaction at the place reads and writes
abbrev pub HasAccesses : LiveRun → (place : ℕ) → Type 0
HasAccesses run place = (a : TxnAccesses) × (slice_get run.accesses place ≡ Some a)

-- points that its transactions may have, by place, and who uses each version
pub record PointsView : Type 0 where
  pub points : List ℕ
  pub users : Users
  pub run : LiveRun

abbrev pub view_of : (points : List ℕ) → Users → LiveRun → PointsView
view_of points users run = record { points = points; users = users; run = run }
