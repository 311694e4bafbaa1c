-- What is looked at in points that may be next, over numbers alone: of a transaction what it reads
-- and writes is given, and of other ones where they are listed as users of the versions.
use Rattle.std.specs.Prelude.{◌≡◌, ◌⊎◌, ◌<◌, ℕ, List, [], slice_index, All, IsTrue}
use Rattle.key_versions.specs.declared.pending.Access.{Access}
use Rattle.clean_order.specs.Accesses.{updates}
use Rattle.clean_order.specs.AtVersions.{IsLowerIfOther}
use Rattle.serial_points.specs.Users.{places_at}
use Rattle.serial_points.specs.declared.users.Users.{Users}

-- each of the places has a lower point than this one, or a higher one, if it is another one
abbrev pub AllLower : (points places : List ℕ) → (place : ℕ) → Type 0
AllLower points places place = All (λ other. IsLowerIfOther points other place) places

abbrev pub AllHigher : (points places : List ℕ) → (place : ℕ) → Type 0
AllHigher points places place = All (λ other. IsLowerIfOther points place other) places

-- ---- what a transaction depends on

-- who writes what is read
abbrev pub AboveWriters : (points : List ℕ) → List (List ℕ) → (place : ℕ) → List Access → Type 0
AboveWriters points writers place reads =
    All (λ (a : Access). AllLower points (places_at writers a.version) place) reads

-- those who read the version; or those of them who update it, where the bound of the others' points
-- is below this one
abbrev pub AreUnboundedReaders : Users → (version point : ℕ) → (places : List ℕ) → Type 0
AreUnboundedReaders users version point places =
    (places ≡ places_at users.readers version)
    ⊎ ((slice_index users.bounds version < point) × (places ≡ places_at users.updaters version))

-- the point at the place is above those of all others that read the version
abbrev pub IsAboveReadersOf :
    (points : List ℕ) → Users → (place version : ℕ) → Type 0
IsAboveReadersOf points users place version =
    (places : List ℕ)
    × AreUnboundedReaders users version (slice_index points place) places
    × AllLower points places place

-- who reads what is updated
abbrev pub AboveReaders :
    (points : List ℕ) → Users → (place : ℕ) → (reads writes : List Access) → Type 0
AboveReaders points users place reads writes =
    All
    (λ (a : Access). IsTrue (updates writes a) → IsAboveReadersOf points users place a.version)
    reads

-- who reads nil of a key that is written
abbrev pub AboveNilReaders : (points : List ℕ) → Users → (place : ℕ) → List Access → Type 0
AboveNilReaders points users place writes =
    All (λ (a : Access). IsAboveReadersOf points users place a.nil) writes

pub record PassesInto (points : List ℕ) (users : Users) (place : ℕ) (reads writes : List Access) :
    Type 0 where
  pub writers : AboveWriters points users.writers place reads
  pub readers : AboveReaders points users place reads writes
  pub nil_readers : AboveNilReaders points users place writes

-- ---- what depends on a transaction

-- who reads what is written
abbrev pub BelowReaders : (points : List ℕ) → List (List ℕ) → (place : ℕ) → List Access → Type 0
BelowReaders points readers place writes =
    All (λ (a : Access). AllHigher points (places_at readers a.version) place) writes

-- who updates what is read
abbrev pub BelowUpdaters : (points : List ℕ) → List (List ℕ) → (place : ℕ) → List Access → Type 0
BelowUpdaters points updaters place reads =
    All (λ (a : Access). AllHigher points (places_at updaters a.version) place) reads

-- those who write the key; or nobody, where the floor of their points is above this one
abbrev pub HasNilFollowers : Users → (nil point : ℕ) → (places : List ℕ) → Type 0
HasNilFollowers users nil point places =
    (places ≡ places_at users.key_writers nil)
    ⊎ ((point < slice_index users.floors nil) × (places ≡ []))

-- who writes a key of which nil is read
abbrev pub BelowKeyWriters : (points : List ℕ) → Users → (place : ℕ) → List Access → Type 0
BelowKeyWriters points users place reads =
    All
    (λ (a : Access).
    a.version ≡ a.nil
    → (places : List ℕ)
    × HasNilFollowers users a.nil (slice_index points place) places
    × AllHigher points places place)
    reads

pub record PassesOutOf (points : List ℕ) (users : Users) (place : ℕ)
    (reads writes : List Access) : Type 0 where
  pub readers : BelowReaders points users.readers place writes
  pub updaters : BelowUpdaters points users.updaters place reads
  pub key_writers : BelowKeyWriters points users place reads
