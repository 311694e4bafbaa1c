-- Who reads each version and who writes it, kept by number of version while a run goes on.
--
-- The lists may have more places than those: it is enough that nobody is left out.
use Rattle.std.specs.Prelude.{◌≡◌, ◌⊎◌, ℕ, List, [], slice_get, slice_index_or, Some, All, Contains, IsTrue}
use Rattle.key_versions.specs.TxnAccesses.{TxnAccesses}
use Rattle.key_versions.specs.declared.pending.Access.{Access}
use Rattle.clean_order.specs.Accesses.{updates}
use Rattle.serial_points.specs.declared.users.Users.{Users}

-- the places that are listed under the number
abbrev pub places_at : List (List ℕ) → (number : ℕ) → List ℕ
places_at lists number = slice_index_or lists number []

abbrev pub IsListed : List (List ℕ) → (number place : ℕ) → Type 0
IsListed lists number place = Contains (places_at lists number) place

-- what was listed still is
abbrev pub StayListed : (before after : List (List ℕ)) → Type 0
StayListed before after =
    (number place : ℕ) → IsListed before number place → IsListed after number place

-- nothing else than the place, under the number, is listed that wasn't
abbrev pub ListOnly : (before after : List (List ℕ)) → (number place : ℕ) → Type 0
ListOnly before after number place =
    (n other : ℕ)
    → IsListed after n other
    → IsListed before n other ⊎ ((n ≡ number) × (other ≡ place))

-- one of the accesses is of the version
abbrev pub HasAccess : List Access → (version : ℕ) → Type 0
HasAccess accesses version = (x : Access) × Contains accesses x × (x.version ≡ version)

-- nothing else than the place, under the versions of the accesses, is listed that wasn't
abbrev pub ListOnlyVersions :
    (before after : List (List ℕ)) → (place : ℕ) → List Access → Type 0
ListOnlyVersions before after place accesses =
    (number other : ℕ)
    → IsListed after number other
    → IsListed before number other ⊎ ((other ≡ place) × HasAccess accesses number)

-- the place is listed under the version of each access, or under the nil version of its key
abbrev pub ListVersions : List (List ℕ) → (place : ℕ) → List Access → Type 0
ListVersions lists place accesses = All (λ (a : Access). IsListed lists a.version place) accesses

abbrev pub ListKeys : List (List ℕ) → (place : ℕ) → List Access → Type 0
ListKeys lists place accesses = All (λ (a : Access). IsListed lists a.nil place) accesses

-- the place is listed under each version that is read, if another one of its key is installed
abbrev pub ListUpdated : List (List ℕ) → (place : ℕ) → (reads writes : List Access) → Type 0
ListUpdated lists place reads writes =
    All
    (λ (a : Access). IsTrue (updates writes a) → IsListed lists a.version place)
    reads

-- the transaction at the place, which reads and writes this, is among the users
pub record IsAmongUsers (users : Users) (place : ℕ) (reads writes : List Access) : Type 0 where
  pub readers : ListVersions users.readers place reads
  pub writers : ListVersions users.writers place writes
  pub key_writers : ListKeys users.key_writers place writes
  pub updaters : ListUpdated users.updaters place reads writes

-- each transaction is
abbrev pub AreUsers : List TxnAccesses → Users → Type 0
AreUsers accesses users =
    (place : ℕ) (a : TxnAccesses)
    → slice_get accesses place ≡ Some a
    → IsAmongUsers users place a.reads a.writes

-- no user is left out that was there before
pub record UsersStay (before after : Users) : Type 0 where
  pub readers : StayListed before.readers after.readers
  pub writers : StayListed before.writers after.writers
  pub key_writers : StayListed before.key_writers after.key_writers
  pub updaters : StayListed before.updaters after.updaters
