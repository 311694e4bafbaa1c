-- Reads of versions that nobody wrote, over numbers.
use Rattle.std.specs.Prelude.{◌≡◌, ℕ, ◌+◌, ◌==◌, ◌&&◌, not, List, Bool, length, slice_get, Some, count_by}
use Rattle.key_versions.specs.TxnAccesses.{TxnAccesses}
use Rattle.key_versions.specs.declared.pending.Access.{Access}
use Rattle.serial_points.specs.Users.{places_at}

-- whether the version that is read isn't nil, and nobody is listed as its writer
abbrev pub is_unwritten : (writers : List (List ℕ)) → Access → Bool
is_unwritten writers read =
    not (read.version == read.nil) && (length (places_at writers read.version) == 0)

-- how many of the reads are of such a version
abbrev pub unwritten : (writers : List (List ℕ)) → List Access → ℕ
unwritten writers reads = count_by (is_unwritten writers) reads

-- the number with those of the transaction at the place
abbrev pub StraysAdvance :
    (before after : ℕ) → (writers : List (List ℕ)) → List TxnAccesses → (place : ℕ) → Type 0
StraysAdvance before after writers accesses place =
    (a : TxnAccesses)
    → slice_get accesses place ≡ Some a
    → after ≡ before + unwritten writers a.reads
