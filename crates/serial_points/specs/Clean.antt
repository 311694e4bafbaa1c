-- Whether what is read was installed, over numbers.
use Rattle.std.specs.Prelude.{◌≡◌, ◌⊎◌, ◌==◌, ℕ, List, [], Bool, slice_get, Some, All, IsTrue, IsFalse}
use Rattle.std.specs.List.{list_any}
use Rattle.hist_types.specs.Transactions.{Transaction, is_failed}
use Rattle.key_versions.specs.TxnAccesses.{TxnAccesses}
use Rattle.key_versions.specs.declared.pending.Access.{Access}
use Rattle.clean_order.specs.Accesses.{InstallsNumber}
use Rattle.serial_points.specs.Users.{places_at}

-- the transaction at the place so installs the version, and it didn't fail
abbrev pub InstallsUnfailed :
    List Transaction → List TxnAccesses → (version place : ℕ) → Type 0
InstallsUnfailed ts accesses version place =
    (t : Transaction)
    × (a : TxnAccesses)
    × (slice_get ts place ≡ Some t)
    × (slice_get accesses place ≡ Some a)
    × IsFalse (is_failed t)
    × InstallsNumber a.writes version

-- one of the writes is of the version
abbrev pub has_write : (version : ℕ) → List Access → Bool
has_write version writes = list_any (λ (write : Access). write.version == version) writes

-- the version that is read is nil, or so installed, or nobody is listed as its writer, or the
-- transaction that reads it writes it itself
abbrev pub IsClean :
    List Transaction
    → List TxnAccesses
    → (writers : List (List ℕ))
    → (own : List Access)
    → Access
    → Type 0
IsClean ts accesses writers own read =
    (read.version ≡ read.nil)
    ⊎ ((place : ℕ) × InstallsUnfailed ts accesses read.version place)
    ⊎ (places_at writers read.version ≡ [])
    ⊎ IsTrue (has_write read.version own)

-- no version that is written is listed as read
abbrev pub AreUnread : List (List ℕ) → List Access → Type 0
AreUnread readers writes = All (λ (a : Access). places_at readers a.version ≡ []) writes
