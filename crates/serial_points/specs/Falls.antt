-- Points that fall, by place, and what is looked at then.
use Rattle.std.specs.Prelude.{◌≡◌, ◌⊎◌, ◌≤◌, ◌<◌, ℕ, List, length, slice_index, slice_index_or, slice_get, Some, All, IsTrue}
use Rattle.hist_types.specs.Transactions.{Transaction, is_ok}
use Rattle.key_versions.specs.TxnAccesses.{TxnAccesses}
use Rattle.key_versions.specs.declared.pending.Access.{Access}
use Rattle.clean_order.specs.Points.{IsNotBefore, IsNotAfter}
use Rattle.serial_points.specs.Bounds.{IsFloored}
use Rattle.serial_points.specs.Passing.{PassesInto, PassesOutOf}
use Rattle.serial_points.specs.Users.{places_at}
use Rattle.serial_points.specs.Views.{PointsView}
use Rattle.serial_points.specs.declared.falls.Fall.{Fall}

abbrev pub fall_at : List Fall → (k : ℕ) → Fall
fall_at falls k = slice_index_or falls k (record { place = 0; point = 0 })

-- one of the first n falls is at the place
abbrev pub IsAmong : List Fall → (n place : ℕ) → Type 0
IsAmong falls n place = (k : ℕ) × (k < n) × ((fall_at falls k).place ≡ place)

-- no point rose, and no point fell but at this place
abbrev pub FallsAt : (before after : List ℕ) → (place : ℕ) → Type 0
FallsAt before after place =
    (other : ℕ)
    → (slice_index after other ≤ slice_index before other)
    × ((slice_index after other ≡ slice_index before other) ⊎ (place ≡ other))

-- no point rose, and no point fell but at the places of the first n falls
abbrev pub HaveFallen : (before after : List ℕ) → List Fall → (n : ℕ) → Type 0
HaveFallen before after falls n =
    (other : ℕ)
    → (slice_index after other ≤ slice_index before other)
    × ((slice_index after other ≡ slice_index before other) ⊎ IsAmong falls n other)

-- no point that fell is below the floors
abbrev pub AreFloored : List TxnAccesses → (points floors : List ℕ) → List Fall → Type 0
AreFloored accesses points floors falls =
    (k : ℕ) → k < length falls → IsFloored accesses points floors (fall_at falls k).place

-- ---- what is looked at

-- the point at the place is not before the transaction's invocation, and above what it depends on
pub record PassesAt (p : PointsView) (place : ℕ) : Type 0 where
  pub begun :
      (t : Transaction)
      → slice_get p.run.txns place ≡ Some t
      → IsNotBefore (slice_index p.points place) t
  pub into :
      (a : TxnAccesses)
      → slice_get p.run.accesses place ≡ Some a
      → PassesInto p.points p.users place a.reads a.writes

-- the transaction at the place is ok, or its point passes
abbrev pub PassesUnlessOk : PointsView → (place : ℕ) → Type 0
PassesUnlessOk p place =
    ((t : Transaction) → slice_get p.run.txns place ≡ Some t → IsTrue (is_ok t))
    ⊎ PassesAt p place

-- so it is of all that write what is read
abbrev pub WritersPass : PointsView → List Access → Type 0
WritersPass p reads =
    All (λ (a : Access). All (PassesUnlessOk p) (places_at p.users.writers a.version)) reads

abbrev pub FallsPass : PointsView → List Fall → Type 0
FallsPass p falls = (k : ℕ) → k < length falls → PassesAt p (fall_at falls k).place

-- what is looked at after the transaction at the place became ok, and these points fell
pub record PassesAfter (p : PointsView) (falls : List Fall) (place : ℕ) : Type 0 where
  pub own : PassesAt p place
  pub ended :
      (t : Transaction)
      → slice_get p.run.txns place ≡ Some t
      → IsNotAfter (slice_index p.points place) t
  pub out :
      (a : TxnAccesses)
      → slice_get p.run.accesses place ≡ Some a
      → PassesOutOf p.points p.users place a.reads a.writes
  pub fallen : FallsPass p falls
  pub writers :
      (a : TxnAccesses) → slice_get p.run.accesses place ≡ Some a → WritersPass p a.reads
