-- The nil versions of keys among numbered versions, by the numbers of the keys.
use Rattle.std.specs.Prelude.{◌≡◌, ◌<◌, ◌⊎◌, ℕ, List, length, get_or, slice_get, Option, Some, None}
use Rattle.atom_index.specs.Numbers.{number_in, pair_eq}

-- the number of the nil version of each key, if it has one
abbrev pub AreNilsIn : List (ℕ × Option ℕ) → List (Option ℕ) → Type 0
AreNilsIn pairs nils =
    (k : ℕ) → k < length nils → get_or nils k None ≡ number_in pair_eq (k, None) pairs

-- the numbers of their keys are below n
abbrev pub AreOfKeysBelow : ℕ → List (ℕ × Option ℕ) → Type 0
AreOfKeysBelow n pairs = (i : ℕ) (p : ℕ × Option ℕ) → slice_get pairs i ≡ Some p → p.0 < n

-- the pair is among the given ones, or is the nil version of the key of one of them
abbrev pub IsWithNil : List (ℕ × Option ℕ) → ℕ × Option ℕ → Type 0
IsWithNil given p =
    (i : ℕ) × (q : ℕ × Option ℕ) × (slice_get given i ≡ Some q) × ((p ≡ q) ⊎ (p ≡ (q.0, None)))

-- each is among the given ones, or is the nil version of the key of one of them
abbrev pub AreWithNils : List (ℕ × Option ℕ) → List (ℕ × Option ℕ) → Type 0
AreWithNils given pairs =
    (i : ℕ) (p : ℕ × Option ℕ) → slice_get pairs i ≡ Some p → IsWithNil given p

-- each of these pairs keeps its number
abbrev pub KeepPlaces : (before after : List (ℕ × Option ℕ)) → Type 0
KeepPlaces before after =
    (i : ℕ) (p : ℕ × Option ℕ) → slice_get before i ≡ Some p → slice_get after i ≡ Some p
