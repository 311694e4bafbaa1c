-- A table that is made longer, where no pair is in the map.
use Rattle.std.proofs.Common.{◌≡◌, inl, inr, ℕ, ◌+◌, ◌*◌, ◌-◌, ◌/◌, ◌%◌, ◌≤◌, ◌<◌, List, [], ◌∷◌, ◌++◌, length, replicate, Bool, true, false, Option, None, Result, Ok, Err, refl, sym, ◌∙◌, ap, arith}
use Rattle.std.specs.Prelude.{nat_lt, ◌&&◌, OnOk, OnErr}
use Rattle.std.specs.declared.alloc.AllocError.{AllocError}
use Rattle.std.proofs.lemmas.Bool.{cases_Bool, cases_lt, and_parts, le-ltb, lt-ltb, ltb-true}
use Rattle.std.proofs.lemmas.List.{get_or_append_left, get_or-append_right, get_or-replicate, length-append, length-replicate}
use Rattle.std.proofs.lemmas.Nat.{div-add-mod'}
use Rattle.std.proofs.Math.Nat.{mod-lt}
use Rattle.std.specs.Map.{lookup}
use Rattle.indexmap.specs.IndexMap.{IndexMap, get, index_map_len}
use Rattle.atom_index.specs.Lookups.{IsPairIndexed}
use Rattle.atom_index.specs.Numbers.{number_in, pair_eq}
use Rattle.atom_index.specs.Slots.{IsLengthened, place_of_value, slot_of_pair, pair_at}
use Rattle.atom_index.proofs.Pushed.{no_item}
use Rattle.atom_index.proofs.Tables.{place_value}

-- the pair of a slot after all slots of a table has none there
beyond : (width : ℕ) → 0 < width → (n slots : ℕ) → slots ≤ n → slot_of_pair width (pair_at width n) slots ≡ None
beyond width wide n slots h =
    let whole : n / width * width + n % width ≡ n = div-add-mod' n width in
    let small : nat_lt (n % width) width ≡ true = lt-ltb (n % width) width (mod-lt n wide) in
    let after : nat_lt n slots ≡ false = le-ltb n slots h in
    rw (place_value (n % width), small, whole, after) refl

-- what has no slot in the longer table has none in the shorter one
none_before : (width : ℕ) (p : ℕ × Option ℕ) (slots more : ℕ) → slots ≤ more → slot_of_pair width p more ≡ None → slot_of_pair width p slots ≡ None
none_before width (key, value) slots more longer none =
    let place = place_of_value value in
    let slot = key * width + place in
    elim (cases_Bool (nat_lt place width && nat_lt slot slots)) [
      | inl is ↦ (
          let tests = and_parts (nat_lt place width) (nat_lt slot slots) is in
          let within = ltb-true slot slots tests.1 in
          let there : nat_lt slot more ≡ true = lt-ltb slot more (omega (arith, within, longer)) in
          absurd (no_item slot (sym (rw (tests.0, there) at none))))
      | inr is_not ↦ rw is_not refl
    ]

module _ {S : Type 0} (pairs : List (ℕ × Option ℕ)) (width : ℕ) (table : List (Option ℕ)) (others : IndexMap (ℕ × Option ℕ) ℕ S)
    (old : IsPairIndexed pairs width table others) (empty : (p : ℕ × Option ℕ) → get pair_eq others p ≡ None) (slots : ℕ) (longer : length table ≤ slots) where
  abbrev rest : List (Option ℕ)
  rest = replicate (slots - length table) None

  len : length (table ++ rest) ≡ slots
  len =
      let sum = length-append table rest in
      let nothing : Option ℕ = None in
      let behind = length-replicate (slots - length table) nothing in
      omega (arith, sum, behind, longer)

  pub lengthened : IsPairIndexed pairs width (table ++ rest) others
  lengthened = record {
    wide = old.wide;
    indexed = record {
      numbered = old.indexed.numbered;
      small = λ n within. elim (cases_lt n (length table)) [
        | inl before ↦ get_or_append_left table rest None n before ∙ old.indexed.small n before
        | inr after ↦ (
            let p = pair_at width n in
            let unnumbered : number_in pair_eq p pairs ≡ None = sym (old.indexed.large p (beyond width old.wide n (length table) after)) ∙ empty p in
            let short : n - length table < slots - length table = omega (arith, after, within, len) in
            get_or-append_right table rest (length table) n None refl after ∙ get_or-replicate (slots - length table) (n - length table) None None short ∙ sym unnumbered)
      ];
      large = λ p none. old.indexed.large p (none_before width p (length table) slots longer (ap (slot_of_pair width p) (sym len) ∙ none));
    };
    numbers = old.numbers;
  }

no_entries : (test : ℕ × Option ℕ → Bool) (entries : List ((ℕ × Option ℕ) × ℕ)) → length entries ≡ 0 → lookup test entries ≡ None
no_entries test [] none = refl
no_entries test (e ∷ entries) none = absurd (omega (arith, none))

-- a map without entries has no pair
pub in_none : {S : Type 0} (others : IndexMap (ℕ × Option ℕ) ℕ S) → index_map_len others ≡ 0 → (p : ℕ × Option ℕ) → get pair_eq others p ≡ None
in_none others none p = no_entries (pair_eq p) others.entries none

-- whether or not memory was there for more slots, the table tells the number of each pair
pub still_indexed :
    {S : Type 0} (r : Result (Unit {0}) AllocError) (pairs : List (ℕ × Option ℕ)) (width wide : ℕ) (table after : List (Option ℕ)) (others : IndexMap (ℕ × Option ℕ) ℕ S) (slots : ℕ)
    → IsPairIndexed pairs width table others → index_map_len others ≡ 0 → length table ≤ slots → wide ≡ width
    → OnOk r (IsLengthened slots table after) → OnErr r (after ≡ table) → IsPairIndexed pairs wide after others
still_indexed (Ok v) pairs width wide table after others slots old none longer same ok err =
    rw (same, ok) (lengthened pairs width table others old (in_none others none) slots longer)
still_indexed (Err e) pairs width wide table after others slots old none longer same ok err = rw (same, err) old
