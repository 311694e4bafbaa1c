-- What a transaction reads and writes, by numbers of versions.
use Rattle.std.specs.Prelude.{◌≡◌, ◌<◌, ◌+◌, ◌==◌, ℕ, not, List, Bool, false, if◌then◌else◌, drop, fold, length, slice_index_or, IsFalse}
use Rattle.key_versions.specs.Rows.{has_nil}
use Rattle.key_versions.specs.declared.pending.Access.{Access}

abbrev pub access_at : List Access → ℕ → Access
access_at accesses i = slice_index_or accesses i (record { nil = 0; version = 0 })

-- one of the writes is of the version, and no later one is of its key
abbrev pub InstallsNumber : List Access → (version : ℕ) → Type 0
InstallsNumber writes version =
    (i : ℕ)
    × (i < length writes)
    × ((access_at writes i).version ≡ version)
    × IsFalse (has_nil (access_at writes i).nil (drop (i + 1) writes))

-- whether the last version that is written of its key, so far and with one write more, is another
-- one than is read
abbrev pub updates_with : (read : Access) → (so_far : Bool) → (write : Access) → Bool
updates_with read so_far write =
    if write.nil == read.nil then not (write.version == read.version) else so_far

-- whether the last of the writes of the key that is read is of another version
abbrev pub updates : (writes : List Access) → Access → Bool
updates writes read = fold (updates_with read) false writes
