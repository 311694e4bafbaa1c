-- Bounds of points. By number of version, a bound is not below the points of those that read the
-- version and install no other one of its key. By number of nil version, a floor is not above the
-- points of those that write the key. Points fall as a run goes on: a bound remains one, and a floor
-- is lowered.
use Rattle.std.specs.Prelude.{◌≡◌, ◌⊎◌, ◌≤◌, ℕ, List, slice_index, slice_get, Some, All, IsFalse}
use Rattle.key_versions.specs.TxnAccesses.{TxnAccesses}
use Rattle.key_versions.specs.declared.pending.Access.{Access}
use Rattle.clean_order.specs.Accesses.{updates}
use Rattle.serial_points.specs.Users.{places_at}

-- no bound fell
abbrev pub AreHigher : (before after : List ℕ) → Type 0
AreHigher before after = (number : ℕ) → slice_index before number ≤ slice_index after number

-- no point at the places is above the bound
abbrev pub AreAtMost : (points places : List ℕ) → (bound : ℕ) → Type 0
AreAtMost points places bound = All (λ place. slice_index points place ≤ bound) places

-- each bound didn't fall, or no point of those that are listed is above it
abbrev pub AreBounds :
    (points : List ℕ) → (readers : List (List ℕ)) → (before after : List ℕ) → Type 0
AreBounds points readers before after =
    (number : ℕ)
    → (slice_index before number ≤ slice_index after number)
    ⊎ AreAtMost points (places_at readers number) (slice_index after number)

-- the point of a transaction that reads and writes this is within the bounds
abbrev pub BoundsReads : (bounds : List ℕ) → (point : ℕ) → (reads writes : List Access) → Type 0
BoundsReads bounds point reads writes =
    All
    (λ (a : Access). IsFalse (updates writes a) → point ≤ slice_index bounds a.version)
    reads

-- so is that of each transaction
abbrev pub BoundAll : List TxnAccesses → (points bounds : List ℕ) → Type 0
BoundAll accesses points bounds =
    (place : ℕ) (a : TxnAccesses)
    → slice_get accesses place ≡ Some a
    → BoundsReads bounds (slice_index points place) a.reads a.writes

-- ---- floors

-- no point at the places is below the floor
abbrev pub AreAtLeast : (points places : List ℕ) → (floor : ℕ) → Type 0
AreAtLeast points places floor = All (λ place. floor ≤ slice_index points place) places

-- each floor didn't rise, or no point of those that are listed is below it
abbrev pub AreFloors :
    (points : List ℕ) → (key_writers : List (List ℕ)) → (before after : List ℕ) → Type 0
AreFloors points key_writers before after =
    (number : ℕ)
    → (slice_index after number ≤ slice_index before number)
    ⊎ AreAtLeast points (places_at key_writers number) (slice_index after number)

-- the point of a transaction that writes this is not below the floors
abbrev pub FloorsWrites : (floors : List ℕ) → (point : ℕ) → (writes : List Access) → Type 0
FloorsWrites floors point writes =
    All (λ (a : Access). slice_index floors a.nil ≤ point) writes

-- that of the transaction at the place is not
abbrev pub IsFloored : List TxnAccesses → (points floors : List ℕ) → (place : ℕ) → Type 0
IsFloored accesses points floors place =
    (a : TxnAccesses)
    → slice_get accesses place ≡ Some a
    → FloorsWrites floors (slice_index points place) a.writes

-- nor is that of any transaction
abbrev pub FloorAll : List TxnAccesses → (points floors : List ℕ) → Type 0
FloorAll accesses points floors = (place : ℕ) → IsFloored accesses points floors place
