-- What an index keeps: the items by number, a table for the small ones, and a map for the others.
use Rattle.std.specs.Prelude.{◌≡◌, ◌<◌, ◌-◌, ◌++◌, ℕ, min, List, length, Bool, Option, None, Some, Vec, vec_len, vec_capacity, if◌then◌else◌}
use Rattle.indexmap.specs.IndexMap.{IndexMap, get, spare, hasher_of}
use Rattle.indexmap.specs.Layout.{hash_map}
use Rattle.hist_types.specs.Atoms.{Atom, atom_eq}
use Rattle.atom_index.specs.Numbers.{Index, number_in, AreNumbered, pair_eq}
use Rattle.atom_index.specs.Slots.{HoldsNumbersOf, slot_of, integer_at, slot_of_pair, pair_at}
use Rattle.atom_index.specs.declared.table.TheConstants.{MAX_NUMBERS}

-- A map whose keys are looked up by their hash or by their order: a key has a number iff one of the
-- two has it. There is room for as many more as can be hashed.
abbrev pub map_in : {K S : Type 0} → IndexMap K ℕ S → List (K × ℕ) → IndexMap K ℕ S
map_in hashed ordered =
    hash_map (hashed.entries ++ ordered) (hasher_of hashed) (spare hashed)

-- this key gets this number, and every other keeps its own
abbrev pub AddsNumber : {K S : Type 0} → (K → K → Bool) → (old new : IndexMap K ℕ S)
    → K → ℕ → Type 0
AddsNumber {K} eq old new key number =
    (k : K) → get eq new k ≡ (if eq key k then Some number else get eq old k)

-- An index as its callers see it: there is room for as many more as the list, the map and the
-- numbers that are left allow.
abbrev pub index_in : {A G S : Type 0} → Vec A G → IndexMap A ℕ S → Index A
index_in items others = record {
  items = items.items;
  spare = min (MAX_NUMBERS - length items.items)
      (min (vec_capacity items - vec_len items) (spare others));
}

-- The table and the map tell the number of each item, and no item has two.
pub record IsIndexedBy {A S : Type 0}
    (eq : A → A → Bool) (slot_of : A → ℕ → Option ℕ) (item_at : ℕ → A)
    (items : List A) (table : List (Option ℕ)) (others : IndexMap A ℕ S) : Type 0 where
  pub numbered : AreNumbered eq items
  pub small : HoldsNumbersOf eq item_at table items
  pub large : (a : A) → slot_of a (length table) ≡ None → get eq others a ≡ number_in eq a items

abbrev pub IsIndexed : {S : Type 0} → List Atom → List (Option ℕ) → IndexMap Atom ℕ S → Type 0
IsIndexed = IsIndexedBy atom_eq slot_of integer_at

-- Each number in the map is that of its pair.
abbrev pub AreNumbersOf : {S : Type 0} → IndexMap (ℕ × Option ℕ) ℕ S → List (ℕ × Option ℕ) → Type 0
AreNumbersOf others pairs = (p : ℕ × Option ℕ) (number : ℕ)
    → get pair_eq others p ≡ Some number → number_in pair_eq p pairs ≡ Some number

-- The map tells the number of each pair that has no slot.
abbrev pub HoldsOthers : {S : Type 0} → ℕ → ℕ → IndexMap (ℕ × Option ℕ) ℕ S
    → List (ℕ × Option ℕ) → Type 0
HoldsOthers width slots others pairs = (p : ℕ × Option ℕ)
    → slot_of_pair width p slots ≡ None → get pair_eq others p ≡ number_in pair_eq p pairs

-- A pair may be in the map and have a slot too, since it may have had none in an earlier table.
pub record IsPairIndexed {S : Type 0} (pairs : List (ℕ × Option ℕ))
    (width : ℕ) (table : List (Option ℕ)) (others : IndexMap (ℕ × Option ℕ) ℕ S) : Type 0 where
  pub wide : 0 < width
  pub indexed : IsIndexedBy pair_eq (slot_of_pair width) (pair_at width) pairs table others
  pub numbers : AreNumbersOf others pairs
