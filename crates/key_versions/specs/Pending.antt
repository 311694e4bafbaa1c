-- What is known of each version while the table is built: writers by number, and readers and
-- followers with the numbers of their versions.
use Rattle.std.specs.Prelude.{◌≤◌, ⊤, ℕ, ◌+◌, List, [], ◌∷◌, Option, Some, None, true, false, All, length}
use Rattle.key_versions.specs.declared.pending.Written.{Written}
use Rattle.key_versions.specs.declared.pending.Written.TheVariants.{Never, Last, Over}
use Rattle.key_versions.specs.declared.types.Writer.{Writer}
use Rattle.key_versions.specs.declared.types.Follower.{Follower}
use Rattle.flat_groups.specs.Groups.{group, IsNumbered}
use Rattle.key_versions.specs.Rows.{Known}

abbrev pub writer_in : Written → Option Writer
writer_in Never = None
writer_in (Last txn) = Some (record { txn = txn; over = false })
writer_in (Over txn) = Some (record { txn = txn; over = true })

-- these followers come in the order of their places, of which none is before this one
abbrev pub AreInOrder : (place : ℕ) → List (ℕ × Follower) → Type 0
AreInOrder place [] = ⊤
AreInOrder place (p ∷ followers) = (place ≤ p.1.txn) × AreInOrder p.1.txn followers

-- readers and followers are of versions that have a place among the writers, and followers come in
-- the order of their own places
abbrev pub AreOfVersions : List Written → List (ℕ × ℕ) → List (ℕ × Follower) → Type 0
AreOfVersions ws readers followers =
    All (IsNumbered (length ws)) readers
    × All (IsNumbered (length ws)) followers
    × AreInOrder 0 followers

-- what is known of the versions from a number on
abbrev pub known_from : ℕ → List Written → List (ℕ × ℕ) → List (ℕ × Follower) → List Known
known_from first [] readers followers = []
known_from first (w ∷ ws) readers followers =
    record {
      writer = writer_in w;
      readers = group first readers;
      followers = group first followers;
    }
    ∷ known_from (first + 1) ws readers followers
