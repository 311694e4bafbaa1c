-- What is looked at along the steps of processes, over numbers alone: whoever installs the version to
-- which a process went depends on all nodes that install or read the one from which it went.
--
-- A transaction that isn't ok becomes a node by the first read of what it writes, and its own steps
-- are looked at then.
use Rattle.std.specs.Prelude.{◌≡◌, ◌⊎◌, ◌<◌, ◌==◌, ◌&&◌, not, ℕ, List, Bool, length, slice_get, Some, All, Contains, IsTrue, IsFalse}
use Rattle.std.specs.List.{list_any}
use Rattle.hist_types.specs.Transactions.{Transaction, is_ok}
use Rattle.key_versions.specs.TxnAccesses.{TxnAccesses}
use Rattle.key_versions.specs.declared.pending.Access.{Access}
use Rattle.clean_order.specs.AtVersions.{IsLowerIfOther}
use Rattle.clean_order.specs.Accesses.{updates}
use Rattle.serial_points.specs.Clean.{AreUnread}
use Rattle.serial_points.specs.Falls.{fall_at}
use Rattle.serial_points.specs.Passing.{IsAboveReadersOf}
use Rattle.serial_points.specs.Steps.{HasStep}
use Rattle.serial_points.specs.Users.{places_at, IsListed, HasAccess}
use Rattle.serial_points.specs.Views.{LiveRun, PointsView}
use Rattle.serial_points.specs.declared.falls.Fall.{Fall}
use Rattle.serial_points.specs.declared.users.Users.{Users}

-- ---- who is left out

-- one of the writes is of the version, and the last one of its key is of no other version
abbrev pub has_install : (version : ℕ) → List Access → Bool
has_install version writes =
    list_any (λ (write : Access). write.version == version && not (updates writes write)) writes

abbrev pub HasNoInstall : LiveRun → (version place : ℕ) → Type 0
HasNoInstall run version place =
    (a : TxnAccesses)
    → slice_get run.accesses place ≡ Some a
    → IsFalse (has_install version a.writes)

-- nobody is listed as a reader of what the transaction at the place writes
abbrev pub IsUnreadAt : Users → LiveRun → (place : ℕ) → Type 0
IsUnreadAt users run place =
    (a : TxnAccesses) → slice_get run.accesses place ≡ Some a → AreUnread users.readers a.writes

-- nor is the transaction ok
pub record IsNoNode (users : Users) (run : LiveRun) (place : ℕ) : Type 0 where
  pub not_ok : (t : Transaction) → slice_get run.txns place ≡ Some t → IsFalse (is_ok t)
  pub unread : IsUnreadAt users run place

-- it doesn't install the version, or is no node
abbrev pub IsLeftOut : Users → LiveRun → (version place : ℕ) → Type 0
IsLeftOut users run version place = HasNoInstall run version place ⊎ IsNoNode users run place

-- ---- what is looked at

-- the one at the place has a lower point than the other one, if they are two, or is left out
abbrev pub IsLowerUnlessLeftOut : PointsView → (other version place : ℕ) → Type 0
IsLowerUnlessLeftOut p other version place =
    IsLowerIfOther p.points place other ⊎ IsLeftOut p.users p.run version place

-- the point at the place is above those of all other nodes that install the version
abbrev pub AboveInstallers : PointsView → (place version : ℕ) → Type 0
AboveInstallers p place version =
    All (IsLowerUnlessLeftOut p place version) (places_at p.users.writers version)

-- and above those of all others that read it
pub record AboveUsers (p : PointsView) (place version : ℕ) : Type 0 where
  pub readers : IsAboveReadersOf p.points p.users place version
  pub installers : AboveInstallers p place version

-- so it is for each version from which a process went to the one that the write is of, if it is the
-- last one of its key
abbrev pub IsAboveStepsTo : PointsView → (place : ℕ) → (writes : List Access) → Access → Type 0
IsAboveStepsTo p place writes write =
    IsFalse (updates writes write)
    → All (AboveUsers p place) (places_at p.run.lists.earlier write.version)

abbrev pub AboveStepsAt : PointsView → (place : ℕ) → Type 0
AboveStepsAt p place =
    (a : TxnAccesses)
    → slice_get p.run.accesses place ≡ Some a
    → All (IsAboveStepsTo p place a.writes) a.writes

abbrev pub FallsAboveSteps : PointsView → List Fall → Type 0
FallsAboveSteps p falls = (k : ℕ) → k < length falls → AboveStepsAt p (fall_at falls k).place

-- the other one has a higher point than the one at the place, if they are two, or doesn't install
-- the version
abbrev pub IsHigherUnlessLeftOut : PointsView → (place version other : ℕ) → Type 0
IsHigherUnlessLeftOut p place version other =
    IsLowerIfOther p.points place other ⊎ HasNoInstall p.run version other

-- the point at the place is below those of all others that install the version
abbrev pub BelowInstallers : PointsView → (place version : ℕ) → Type 0
BelowInstallers p place version =
    All (IsHigherUnlessLeftOut p place version) (places_at p.users.writers version)

-- so it is for each version to which a process went from one that is read
abbrev pub BelowReadSteps : PointsView → (place : ℕ) → (reads : List Access) → Type 0
BelowReadSteps p place reads =
    All
    (λ (a : Access). All (BelowInstallers p place) (places_at p.run.lists.later a.version))
    reads

-- and for each one to which a process went from the one that the write is of, if it is the last one
-- of its key
abbrev pub IsBelowStepsFrom :
    PointsView → (place : ℕ) → (writes : List Access) → Access → Type 0
IsBelowStepsFrom p place writes write =
    IsFalse (updates writes write)
    → All (BelowInstallers p place) (places_at p.run.lists.later write.version)

abbrev pub BelowOwnStepsAt : PointsView → (place : ℕ) → Type 0
BelowOwnStepsAt p place =
    (a : TxnAccesses)
    → slice_get p.run.accesses place ≡ Some a
    → All (IsBelowStepsFrom p place a.writes) a.writes

-- so it is at the place, or there is no node there
abbrev pub IsBelowIfNode : PointsView → (place : ℕ) → Type 0
IsBelowIfNode p place = IsNoNode p.users p.run place ⊎ BelowOwnStepsAt p place

-- so it is at the place, or the transaction there is ok
abbrev pub IsBelowUnlessOk : PointsView → (place : ℕ) → Type 0
IsBelowUnlessOk p place =
    ((t : Transaction) → slice_get p.run.txns place ≡ Some t → IsTrue (is_ok t))
    ⊎ BelowOwnStepsAt p place

-- one of the places is another one than this
abbrev pub has_another : (place : ℕ) → (places : List ℕ) → Bool
has_another place places = list_any (λ other. not (other == place)) places

-- another one than the transaction at the place is listed as a reader of the version, or all that
-- write it are below their own steps or ok
abbrev pub WritersPassSteps : PointsView → (place version : ℕ) → Type 0
WritersPassSteps p place version =
    IsTrue (has_another place (places_at p.users.readers version))
    ⊎ All (IsBelowUnlessOk p) (places_at p.users.writers version)

-- so it is for each version that is read
abbrev pub NewNodesBelowSteps : PointsView → (place : ℕ) → (reads : List Access) → Type 0
NewNodesBelowSteps p place reads =
    All (λ (a : Access). WritersPassSteps p place a.version) reads

-- the one at the place is above all other nodes that read or install the earlier version, or doesn't
-- install the later one
abbrev pub IsAboveStep : PointsView → (step : ℕ × ℕ) → (place : ℕ) → Type 0
IsAboveStep p step place = AboveUsers p place step.1 ⊎ HasNoInstall p.run step.0 place

-- so is whoever writes the later version
abbrev pub StepRises : PointsView → (step : ℕ × ℕ) → Type 0
StepRises p step = All (IsAboveStep p step) (places_at p.users.writers step.0)

-- what is looked at after an event of the transaction at the place, and after these falls
pub record StepsPass (p : PointsView) (falls : List Fall) (place : ℕ) : Type 0 where
  pub own : AboveStepsAt p place
  pub reads :
      (a : TxnAccesses) → slice_get p.run.accesses place ≡ Some a → BelowReadSteps p place a.reads
  pub writes : IsBelowIfNode p place
  pub new_nodes :
      (a : TxnAccesses)
      → slice_get p.run.accesses place ≡ Some a
      → NewNodesBelowSteps p place a.reads
  pub fallen : FallsAboveSteps p falls
  pub fresh : All (StepRises p) p.run.lists.fresh.items

-- ---- what holds then

-- somebody is listed as a reader of one of the versions that are written
abbrev pub HasReader : (readers : List (List ℕ)) → (writes : List Access) → Type 0
HasReader readers writes =
    (x : Access) × (reader : ℕ) × Contains writes x × IsListed readers x.version reader

-- the transaction reads the version; or it installs it, and is ok or was read
abbrev pub Uses : Users → Transaction → TxnAccesses → (version : ℕ) → Type 0
Uses users t a version =
    HasAccess a.reads version
    ⊎ (IsTrue (has_install version a.writes)
    × (IsTrue (is_ok t) ⊎ HasReader users.readers a.writes))

-- points rise along all steps, from each node that reads or installs the earlier version to whoever
-- installs the later one
abbrev pub AllStepsRise : PointsView → Type 0
AllStepsRise p =
    (later earlier first second : ℕ) (t : Transaction) (a b : TxnAccesses)
    → HasStep p.run.lists (later, earlier)
    → slice_get p.run.txns first ≡ Some t
    → slice_get p.run.accesses first ≡ Some a
    → Uses p.users t a earlier
    → slice_get p.run.accesses second ≡ Some b
    → IsTrue (has_install later b.writes)
    → IsLowerIfOther p.points first second
