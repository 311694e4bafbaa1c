-- The keys of versions, by number.
use Rattle.std.specs.Prelude.{◌≡◌, ◌<◌, ◌↔◌, ℕ, List, length, All, Some, slice_get}
use Rattle.hist_types.specs.Transactions.{Version}

-- The key of each version has a number below the count, and versions are of one key exactly if the
-- numbers of their keys are equal.
pub record AreKeyNumbers (versions : List Version) (count : ℕ) (numbers : List ℕ) : Type 0 where
  pub each : length numbers ≡ length versions
  pub below : All (λ number. number < count) numbers
  pub same :
      (i j m n : ℕ) (v w : Version)
      → slice_get versions i ≡ Some v
      → slice_get versions j ≡ Some w
      → slice_get numbers i ≡ Some m
      → slice_get numbers j ≡ Some n
      → (m ≡ n) ↔ (v.key ≡ w.key)
