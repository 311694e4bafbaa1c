-- The tables in front of the maps.
use Rattle.std.specs.Prelude.{◌≡◌, ◌<◌, ◌+◌, ◌-◌, ◌*◌, ◌/◌, ◌%◌, ◌&&◌, ℕ, pos, List, length, ◌++◌, get_or, replicate, Bool, Option, Some, None, nat_lt, if◌then◌else◌}
use Rattle.hist_types.specs.Atoms.{Atom, integer, atom_eq}
use Rattle.atom_index.specs.Numbers.{number_in, pair_eq}

-- what is kept in a slot: one more than the number there, or 0 for none
abbrev pub number_of_entry : ℕ → Option ℕ
number_of_entry entry = if nat_lt 0 entry then Some (entry - 1) else None

-- Each slot of the table has the number of its item among the items, if it is among them.
abbrev pub HoldsNumbersOf : {A : Type 0} → (A → A → Bool) → (item_at : ℕ → A)
    → List (Option ℕ) → List A → Type 0
HoldsNumbersOf eq item_at table items =
    (n : ℕ) → n < length table → get_or table n None ≡ number_in eq (item_at n) items

-- the slots that were there stay as they were, and those after them have no number
abbrev pub IsLengthened : (slots : ℕ) → (old new : List (Option ℕ)) → Type 0
IsLengthened slots old new = new ≡ old ++ replicate (slots - length old) None

-- ---- small integers

-- the place of an atom in a table with n slots, if it has one
abbrev pub slot_of : Atom → ℕ → Option ℕ
slot_of (integer (pos number)) slots = if nat_lt number slots then Some number else None
slot_of atom slots = None

abbrev pub integer_at : ℕ → Atom
integer_at slot = integer (pos slot)

abbrev pub HoldsNumbers : List (Option ℕ) → List Atom → Type 0
HoldsNumbers = HoldsNumbersOf atom_eq integer_at

-- ---- pairs of a key and one of its first values

-- the place of nil or of a value in the row of its key: nil is first
abbrev pub place_of_value : Option ℕ → ℕ
place_of_value None = 0
place_of_value (Some value) = value + 1

-- the slot of a pair, if it has one: each key has a row, which is as wide as this
abbrev pub slot_of_pair : ℕ → ℕ × Option ℕ → ℕ → Option ℕ
slot_of_pair width (key, value) slots =
    let place = place_of_value value in
    let slot = key * width + place in
    if nat_lt place width && nat_lt slot slots then Some slot else None

abbrev pub pair_at : ℕ → ℕ → ℕ × Option ℕ
pair_at width slot = (slot / width, number_of_entry (slot % width))

-- what has no slot is none of these pairs
abbrev pub HaveSlots : (width slots : ℕ) → List (ℕ × Option ℕ) → Type 0
HaveSlots width slots pairs =
    (p : ℕ × Option ℕ) → slot_of_pair width p slots ≡ None → number_in pair_eq p pairs ≡ None

abbrev pub HoldsPairs : ℕ → List (Option ℕ) → List (ℕ × Option ℕ) → Type 0
HoldsPairs width = HoldsNumbersOf pair_eq (pair_at width)
