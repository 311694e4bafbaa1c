-- Entries in the order of their keys.
use Rattle.std.specs.Prelude.{◌≡◌, ◌<◌, ◌≤◌, ℕ, List, length, Bool, Some, slice_index_or, if◌then◌else◌}
use Rattle.std.specs.List.{All}
use Rattle.std.specs.List.Sorted.{IsNonDecreasingBy, IsPartitionPoint}
use Rattle.std.specs.Map.{lookup}
use Rattle.std.specs.Ordering.{ordering_index}
use Rattle.std.specs.declared.cmp.Ordering.{Ordering}
use Rattle.std.specs.declared.cmp.Ordering.TheVariants.{Less, Equal, Greater}

-- The keys rise, as a search for any key asks, and each key has the number that is beside it.
pub record AreSorted {K : Type 0} (eq : K → K → Bool) (cmp : K → K → Ordering)
    (entries : List (K × ℕ)) : Type 0 where
  pub rise : (k : K) → IsNonDecreasingBy (λ e. ordering_index (cmp e.0 k)) entries
  pub numbered : All (λ e. lookup (eq e.0) entries ≡ Some e.1) entries

-- this key is at this place
pub record HasKeyAt {K : Type 0} (cmp : K → K → Ordering) (entries : List (K × ℕ))
    (key : K) (i : ℕ) : Type 0 where
  pub within : i < length entries
  pub equal : (d : K × ℕ) → cmp (slice_index_or entries i d).0 key ≡ Equal

-- this key would go to this place: smaller ones are before it, and greater ones from it on
pub record IsGapFor {K : Type 0} (cmp : K → K → Ordering) (entries : List (K × ℕ))
    (key : K) (i : ℕ) : Type 0 where
  pub within : i ≤ length entries
  pub parts : IsPartitionPoint
      (λ e. cmp e.0 key ≡ Less) (λ e. cmp e.0 key ≡ Greater) entries i

-- this key gets this number, and every other keeps its own
abbrev pub IsWith : {K : Type 0} → (K → K → Bool) → (old new : List (K × ℕ)) → K → ℕ → Type 0
IsWith {K} eq old new key number =
    (k : K) → lookup (eq k) new ≡ (if eq key k then Some number else lookup (eq k) old)
