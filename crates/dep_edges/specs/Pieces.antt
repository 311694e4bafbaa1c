-- What looks at the versions of some keys give, and what the looks at all versions give together.
use Rattle.std.specs.Prelude.{◌≡◌, ◌⊎◌, ◌<◌, ◌≤◌, ℕ, List, Bool, true, false, not, ◌&&◌, ◌==◌, if◌then◌else◌, Option, Some, None, slice_get, slice_set, length, fold, Contains, All}
use Rattle.hist_types.specs.Transactions.{Transaction, Version, is_failed}
use Rattle.key_versions.specs.Histories.{writer_of, readers_of}
use Rattle.key_versions.specs.declared.types.Writer.{Writer}
use Rattle.dep_edges.specs.Histories.{History}
use Rattle.dep_edges.specs.Possible.{RulesOutReadsOf, either}
use Rattle.dep_edges.specs.Tables.{IsNumber, txn_at, version_at}
use Rattle.dep_edges.specs.declared.possible.Possible.{Possible}

-- what is known once some versions have been looked at
pub record Piece : Type 0 where
  -- which kinds of bad reads there may be
  pub possible : Possible
  -- the places of the transactions that wrote a version that was read, and didn't fail
  pub writers : List ℕ

-- the place of the transaction that wrote a version, if the version was read and it didn't fail
abbrev pub unfailed_place : List Transaction → Option Writer → (was_read : Bool) → Option ℕ
unfailed_place ts None was_read = None
unfailed_place ts (Some w) was_read =
    if was_read && not (is_failed (txn_at ts w.txn)) then Some w.txn else None

abbrev pub read_writer : List Transaction → Version → Option ℕ
read_writer ts v = unfailed_place ts (writer_of ts v) (not (length (readers_of ts v) == 0))

-- the version is one of those that were looked at
pub record IsSeen (ts : List Transaction) (piece : Piece) (v : Version) : Type 0 where
  pub possible : RulesOutReadsOf ts piece.possible v
  pub writer : (place : ℕ) → read_writer ts v ≡ Some place → Contains piece.writers place

-- what is known comes from versions of the history
abbrev pub IsOf : History → Piece → Type 0
IsOf h piece =
    (place : ℕ)
    → Contains piece.writers place
    → (number : ℕ)
    × IsNumber h.table number
    × (read_writer h.txns (version_at h.table number) ≡ Some place)

-- The version is of one of the keys from one number up to but not including another one. The number
-- of each version's key is given.
abbrev pub IsOfKeys : (keys : List ℕ) → (from to number : ℕ) → Type 0
IsOfKeys keys from to number =
    (key : ℕ) × (slice_get keys number ≡ Some key) × (from ≤ key) × (key < to)

-- what is known comes from versions of these keys
abbrev pub IsByKeys : History → (keys : List ℕ) → (from to : ℕ) → Piece → Type 0
IsByKeys h keys from to piece =
    (place : ℕ)
    → Contains piece.writers place
    → (number : ℕ)
    × IsOfKeys keys from to number
    × (read_writer h.txns (version_at h.table number) ≡ Some place)

-- the versions of these keys were looked at, and no others
pub record IsPieceOf (h : History) (keys : List ℕ) (from to : ℕ) (piece : Piece) : Type 0 where
  pub by : IsByKeys h keys from to piece
  pub seen :
      (number : ℕ)
      → IsOfKeys keys from to number
      → IsSeen h.txns piece (version_at h.table number)

-- each version was looked at in one of the pieces
pub record ArePiecesOf (h : History) (pieces : List Piece) : Type 0 where
  pub of : All (IsOf h) pieces
  pub seen :
      (number : ℕ)
      → IsNumber h.table number
      → (piece : Piece) × Contains pieces piece × IsSeen h.txns piece (version_at h.table number)

-- one version more was looked at
pub record Sees (h : History) (before after : Piece) (number : ℕ) : Type 0 where
  pub by :
      (place : ℕ)
      → Contains after.writers place
      → Contains before.writers place
      ⊎ (read_writer h.txns (version_at h.table number) ≡ Some place)
  pub kept : (v : Version) → IsSeen h.txns before v → IsSeen h.txns after v
  pub seen : IsSeen h.txns after (version_at h.table number)

-- ---- all pieces

abbrev pub possible_in : List Piece → Possible
possible_in pieces =
    fold (λ found (piece : Piece). either found piece.possible)
    (record { aborted = false; intermediate = false; stray = false }) pieces

-- marks with those of these places
abbrev pub with_marks : List Bool → List ℕ → List Bool
with_marks marks places = fold (λ ms place. slice_set ms place true) marks places

abbrev pub with_all_marks : List Bool → List Piece → List Bool
with_all_marks marks pieces = fold (λ ms (piece : Piece). with_marks ms piece.writers) marks pieces
