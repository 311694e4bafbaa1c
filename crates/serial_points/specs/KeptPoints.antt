-- Points that are kept while a run goes on.
use Rattle.std.specs.Prelude.{◌≡◌, ℕ, List, [], ◌∷◌, ◌++◌, length, slice_get, slice_index, Some, All}
use Rattle.hist_types.specs.Journal.{KeepsRules}
use Rattle.hist_types.specs.Operations.{Operation}
use Rattle.hist_types.specs.Phenomena.{stray}
use Rattle.hist_types.specs.Transactions.{Transaction, Status, Ok, Fail, Info, Open, transactions_of}
use Rattle.hist_types.specs.declared.types.KeyOrder.TheVariants.{Basic, Sequential}
use Rattle.key_versions.specs.Kept.{KeptVersions, AreKept, KeepNumbers, StayBeside}
use Rattle.key_versions.specs.TxnAccesses.{TxnAccesses}
use Rattle.txn_pairs.specs.Growth.{IsChange}
use Rattle.clean_order.specs.CleanReads.{ReadsAreClean}
use Rattle.clean_order.specs.Points.{ArePoints}
use Rattle.serial_points.specs.Bounds.{AreBounds, AreFloors, BoundsReads, BoundAll, IsFloored, FloorAll}
use Rattle.serial_points.specs.ByPlace.{AreListed}
use Rattle.serial_points.specs.Clean.{IsClean}
use Rattle.serial_points.specs.Falls.{HaveFallen, AreFloored, PassesAfter}
use Rattle.serial_points.specs.KeptSteps.{HasSteps}
use Rattle.serial_points.specs.Stepping.{IsUnreadAt}
use Rattle.serial_points.specs.Views.{PointsView}
use Rattle.serial_points.specs.Users.{AreUsers, IsAmongUsers, UsersStay, ListOnlyVersions}
use Rattle.serial_points.specs.declared.falls.Fall.{Fall}
use Rattle.serial_points.specs.declared.steps.Steps.{Steps}
use Rattle.serial_points.specs.declared.users.Users.{Users}

-- points by dependencies that don't take the order in which a process saw versions
pub record BasicPoints : Type 0 where
  -- by place of transaction
  pub points : List ℕ
  pub users : Users
  -- how many reads are stray
  pub strays : ℕ

pub record KeptPoints : Type 0 where
  pub basic : BasicPoints
  pub steps : Steps

-- The points are points of the events, as if keys were basic. The events keep the rules, and no read
-- of them is a bad one. So many are stray.
pub record HasBasicPoints (events : List Operation) (kept : KeptVersions) (p : BasicPoints) :
    Type 0 where
  pub rules : KeepsRules events
  pub versions : AreKept (transactions_of events) kept
  pub users : AreUsers kept.accesses p.users
  pub bounds : BoundAll kept.accesses p.points p.users.bounds
  pub floors : FloorAll kept.accesses p.points p.users.floors
  pub clean : ReadsAreClean (transactions_of events)
  pub strays : stray (transactions_of events) ≡ p.strays
  pub count : length p.points ≡ length (transactions_of events)
  pub are_points :
      (point : ℕ → ℕ)
      × AreListed (transactions_of events) p.points point
      × ArePoints Basic (transactions_of events) point

-- The points are points of the events: they rise along steps, too, if keys are sequential.
pub record HasPoints (events : List Operation) (kept : KeptVersions) (p : KeptPoints) :
    Type 0 where
  pub basic : HasBasicPoints events kept p.basic
  pub steps :
      kept.keys ≡ Sequential
      → HasSteps (transactions_of events) kept p.basic.points p.basic.users p.steps

-- The event came after those that the points are of, and began or completed the transaction at the
-- place; the transactions and what is kept of them are those of the events and this one.
pub record IsBasicNext (events : List Operation) (event : Operation) (before : KeptVersions)
    (p : BasicPoints) (later : List Transaction) (after : KeptVersions) (place : ℕ) : Type 0 where
  pub points : HasBasicPoints events before p
  pub rules : KeepsRules (events ++ event ∷ [])
  pub txns : later ≡ transactions_of (events ++ event ∷ [])
  pub kept : AreKept later after
  pub change : IsChange (length events) event (Some place) (transactions_of events) later
  pub others : StayBeside place before.accesses after.accesses

-- Versions keep their numbers, and keys are ordered as before.
pub record IsNext (events : List Operation) (event : Operation) (before : KeptVersions)
    (p : KeptPoints) (later : List Transaction) (after : KeptVersions) (place : ℕ) : Type 0 where
  pub points : HasPoints events before p
  pub basic : IsBasicNext events event before p.basic later after place
  pub numbers : KeepNumbers before.versions after.versions
  pub keys : after.keys ≡ before.keys

-- ---- one event, by how its transaction is now

-- the reads of the transaction at the place are clean
abbrev pub IsCleanAt : PointsView → (place : ℕ) → Type 0
IsCleanAt p place =
    (a : TxnAccesses)
    → slice_get p.run.accesses place ≡ Some a
    → All (IsClean p.run.txns p.run.accesses p.users.writers a.writes) a.reads

-- points fell, and pass
abbrev pub FallAndPass : (before : List ℕ) → PointsView → List Fall → (place : ℕ) → Type 0
FallAndPass before p falls place =
    (length p.points ≡ length before)
    × HaveFallen before p.points falls (length falls)
    × PassesAfter p falls place
    × AreFloored p.run.accesses p.points p.users.floors falls

abbrev pub AdvancesBy :
    Status → (before : List ℕ) → PointsView → List Fall → (place : ℕ) → Type 0
AdvancesBy Open before p falls place =
    IsUnreadAt p.users p.run place × ((point : ℕ) × (p.points ≡ before ++ point ∷ []))
AdvancesBy Fail before p falls place = IsUnreadAt p.users p.run place × (p.points ≡ before)
AdvancesBy Info before p falls place = p.points ≡ before
AdvancesBy Ok before p falls place = IsCleanAt p place × FallAndPass before p falls place

-- so it is by the status of the transaction at the place
abbrev pub PointsAdvance : (before : List ℕ) → PointsView → List Fall → (place : ℕ) → Type 0
PointsAdvance before p falls place =
    (t : Transaction)
    → slice_get p.run.txns place ≡ Some t
    → AdvancesBy t.status before p falls place

-- the same users are listed, and what is above their points, or below them, is so again; the
-- transaction at the place is within it
pub record HasSettled (points : List ℕ) (before after : Users) (accesses : List TxnAccesses)
    (place : ℕ) : Type 0 where
  pub readers : after.readers ≡ before.readers
  pub writers : after.writers ≡ before.writers
  pub key_writers : after.key_writers ≡ before.key_writers
  pub updaters : after.updaters ≡ before.updaters
  pub bounds : AreBounds points after.readers before.bounds after.bounds
  pub floors : AreFloors points after.key_writers before.floors after.floors
  pub bound :
      (a : TxnAccesses)
      → slice_get accesses place ≡ Some a
      → BoundsReads after.bounds (slice_index points place) a.reads a.writes
  pub floored : IsFloored accesses points after.floors place

-- the transaction at the place is among the users, no other one is left out, and no other one is
-- listed as a reader that wasn't
pub record UsersAdvance (before after : Users) (accesses : List TxnAccesses) (place : ℕ) :
    Type 0 where
  pub stay : UsersStay before after
  pub among :
      (a : TxnAccesses)
      → slice_get accesses place ≡ Some a
      → IsAmongUsers after place a.reads a.writes
  pub only :
      (a : TxnAccesses)
      → slice_get accesses place ≡ Some a
      → ListOnlyVersions before.readers after.readers place a.reads
