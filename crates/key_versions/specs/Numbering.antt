-- Versions that are numbered by the numbers of their keys and values.
use Rattle.std.specs.Prelude.{◌≡◌, ◌<◌, ℕ, pos, List, [], ◌∷◌, length, get_or, slice_get, Option, Some, None, map, fold, option_map, ⊤}
use Rattle.hist_types.specs.Atoms.{Atom, integer, atom_eq}
use Rattle.hist_types.specs.Transactions.{Version, version_eq}
use Rattle.hist_types.specs.Versions.{nil_of}
use Rattle.atom_index.specs.Numbers.{AreNumbered, with_item, pair_eq}
use Rattle.key_versions.specs.declared.pending.Access.{Access}
use Rattle.key_versions.specs.Nils.{AreNilsIn}

abbrev pub version_with : Atom → Option Atom → Version
version_with key value = record { key = key; value = value }

abbrev pub key_at : List Atom → ℕ → Atom
key_at keys number = get_or keys number (integer (pos 0))

-- the version of a key and a value with these numbers
abbrev pub version_by : List Atom → List Atom → ℕ × Option ℕ → Version
version_by keys values p =
    version_with (key_at keys p.0) (option_map (λ m. get_or values m (integer (pos 0))) p.1)

abbrev pub versions_in : List Atom → List Atom → List (ℕ × Option ℕ) → List Version
versions_in keys values pairs = map (version_by keys values) pairs

abbrev pub IsBelow : ℕ → Option ℕ → Type 0
IsBelow n None = ⊤
IsBelow n (Some m) = m < n

-- its key and its value have a number
abbrev pub IsInRange : List Atom → List Atom → ℕ × Option ℕ → Type 0
IsInRange keys values p = (p.0 < length keys) × IsBelow (length values) p.1

abbrev pub AreInRange : List Atom → List Atom → List (ℕ × Option ℕ) → Type 0
AreInRange keys values pairs =
    (i : ℕ) (p : ℕ × Option ℕ) → slice_get pairs i ≡ Some p → IsInRange keys values p

-- numbered keys and values, the versions by the numbers of theirs, and the nil version of each key,
-- if it has a number
pub record Numbers : Type 0 where
  pub keys : List Atom
  pub values : List Atom
  pub pairs : List (ℕ × Option ℕ)
  pub nils : List (Option ℕ)

pub record IsNumbering (keys values : List Atom) (pairs : List (ℕ × Option ℕ))
    (nils : List (Option ℕ)) : Type 0 where
  pub keys_numbered : AreNumbered atom_eq keys
  pub values_numbered : AreNumbered atom_eq values
  pub pairs_numbered : AreNumbered pair_eq pairs
  pub in_range : AreInRange keys values pairs
  pub nils_numbered : AreNilsIn pairs nils
  pub nil_of_each : length nils ≡ length keys

abbrev pub versions_of : Numbers → List Version
versions_of s = versions_in s.keys s.values s.pairs

-- the versions once these are among them
abbrev pub with_versions : List Version → List Version → List Version
with_versions versions vs = fold (with_item version_eq) versions vs

-- the numbers of a version and of the nil version of its key
abbrev pub IsAccess : List Version → Version → Access → Type 0
IsAccess versions v a =
    (slice_get versions a.nil ≡ Some (nil_of v.key)) × (slice_get versions a.version ≡ Some v)

-- If there is an access of the version, the version and the nil version of its key are numbered
-- afterwards; else nothing changes.
abbrev pub IsAccessIfAny : (before after : List Version) → Version → Option Access → Type 0
IsAccessIfAny before after v None = after ≡ before
IsAccessIfAny before after v (Some a) =
    (after ≡ with_versions before (nil_of v.key ∷ v ∷ [])) × IsAccess after v a

-- the version has this number, and its key the other one
abbrev pub IsVersionOfKey : Numbers → (number key : ℕ) → Version → Type 0
IsVersionOfKey s number key v =
    (key < length s.keys)
    × (key_at s.keys key ≡ v.key)
    × (slice_get (versions_of s) number ≡ Some v)

abbrev pub AreAccesses : List Version → List Version → List Access → Type 0
AreAccesses versions [] [] = ⊤
AreAccesses versions (v ∷ vs) (a ∷ accesses) =
    IsAccess versions v a × AreAccesses versions vs accesses
AreAccesses versions vs accesses = ⊥
