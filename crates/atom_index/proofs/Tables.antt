-- The tables in front of the maps, and one item more.
use Rattle.std.proofs.Common.{◌≡◌, inl, inr, ℕ, ◌+◌, ◌*◌, ◌/◌, ◌%◌, ◌<◌, pos, negsuc, List, [], ◌∷◌, ◌++◌, length, get_or, take, map, replicate, zero, suc, ◌-◌, Bool, true, false, Option, Some, None, refl, sym, ◌∙◌, ap, subst, arith}
use Rattle.std.specs.Prelude.{nat_lt, ◌≢◌, ◌&&◌, ◌==◌, nat_eq}
use Rattle.std.proofs.lemmas.List.{take_more, get_or-set_same, get_or-set_other, length-set, length-take-le}
use Rattle.std.proofs.Math.ListN.{set}
use Rattle.std.specs.Option.{is_some, option_eq}
use Rattle.std.proofs.lemmas.Nat.{div-mul-add, mod-mul-add, div-add-mod'}
use Rattle.std.proofs.Math.Nat.{mod-lt}
use Rattle.std.proofs.lemmas.Bool.{cases_Bool, true≢false, lt-ltb, ltb-true, eqb-true, and_parts, false_from_ne_true}
use Rattle.hist_types.specs.Atoms.{Atom, integer, keyword, string, symbol, atom_eq}
use Rattle.hist_types.proofs.Equality.{atom_eq-same, atom_eq-itself}
use Rattle.atom_index.specs.Numbers.{number_in, pair_eq}
use Rattle.atom_index.specs.Slots.{number_of_entry, slot_of, integer_at, place_of_value, slot_of_pair, pair_at, HoldsNumbersOf}
use Rattle.atom_index.proofs.Pushed.{number_first, number_last, number_kept, pair_eq-itself}

-- ---- what is kept in a slot

pub entry_of : (number : ℕ) → number_of_entry (number + 1) ≡ Some number
entry_of number =
    let some : nat_lt 0 (number + 1) ≡ true = lt-ltb 0 (number + 1) (omega arith) in
    let is : number + 1 - 1 ≡ number = omega arith in
    rw (some, is) refl

pub map-replicate : {A B : Type 0} (f : A → B) (n : ℕ) (x : A) → map f (replicate n x) ≡ replicate n (f x)
map-replicate f zero x = refl
map-replicate f (suc n) x = ap (λ (ys : List _). f x ∷ ys) (map-replicate f n x)

no_slot : (s : ℕ) → None ≡ Some s → ⊥
no_slot s e = cc

same_slot : (s t : ℕ) → Some s ≡ Some t → s ≡ t
same_slot s t e = cc

-- what has a slot is the item of that slot
pub record IsSmall {A : Type 0} (item_at : ℕ → A) (item : A) (slots slot : ℕ) : Type 0 where
  pub is : item ≡ item_at slot
  pub within : slot < slots

-- An equality that means equality, and places for some of the items.
pub record AreSlots {A : Type 0} (eq : A → A → Bool) (slot_of : A → ℕ → Option ℕ) (item_at : ℕ → A) : Type 0 where
  pub same : (a b : A) → eq a b ≡ true → a ≡ b
  pub itself : (a : A) → eq a a ≡ true
  pub told : (a : A) (slots slot : ℕ) → slot_of a slots ≡ Some slot → IsSmall item_at a slots slot
  pub has : (n slots : ℕ) → n < slots → slot_of (item_at n) slots ≡ Some n

-- ---- small integers

int_told : (atom : Atom) (slots slot : ℕ) → slot_of atom slots ≡ Some slot → IsSmall integer_at atom slots slot
int_told (integer (pos n)) slots slot e = elim (cases_Bool (nat_lt n slots)) [
  | inl is ↦ (
      let same : n ≡ slot = same_slot n slot (rw is at e) in
      record { is = ap integer_at same; within = subst (λ (m : ℕ). m < slots) same (ltb-true n slots is) })
  | inr is_not ↦ absurd (no_slot slot (rw is_not at e))
]
int_told (integer (negsuc n)) slots slot e = absurd (no_slot slot e)
int_told (keyword s) slots slot e = absurd (no_slot slot e)
int_told (string s) slots slot e = absurd (no_slot slot e)
int_told (symbol s) slots slot e = absurd (no_slot slot e)

int_has : (n slots : ℕ) → n < slots → slot_of (integer_at n) slots ≡ Some n
int_has n slots h = let is : nat_lt n slots ≡ true = lt-ltb n slots h in rw is refl

pub atom_slots : AreSlots atom_eq slot_of integer_at
atom_slots = record { same = atom_eq-same; itself = atom_eq-itself; told = int_told; has = int_has }

-- ---- pairs

abbrev pair : ℕ → Option ℕ → ℕ × Option ℕ
pair key value = (key, value)

pub same_pair : (p q : ℕ × Option ℕ) → pair_eq p q ≡ true → p ≡ q
same_pair (k, v) (l, w) e =
    let parts = and_parts (k == l) (option_eq nat_eq v w) e in
    pair_of k l v w (eqb-true k l parts.0) (same_value v w parts.1)
  where
    same_value : (v w : Option ℕ) → option_eq nat_eq v w ≡ true → v ≡ w
    same_value None None h = refl
    same_value None (Some n) h = absurd (true≢false (sym h))
    same_value (Some m) None h = absurd (true≢false (sym h))
    same_value (Some m) (Some n) h = ap Some (eqb-true m n h)

    pair_of : (k l : ℕ) (v w : Option ℕ) → k ≡ l → v ≡ w → pair k v ≡ pair l w
    pair_of k l v w e f = ap (λ (x : ℕ). pair x v) e ∙ ap (pair l) f

value_place : (value : Option ℕ) → number_of_entry (place_of_value value) ≡ value
value_place None = refl
value_place (Some value) = entry_of value

pub place_value : (place : ℕ) → place_of_value (number_of_entry place) ≡ place
place_value zero = refl
place_value (suc n) =
    let is : number_of_entry (suc n) ≡ Some n = ap number_of_entry (omega arith) ∙ entry_of n in
    ap place_of_value is ∙ omega arith

pair_told : (width : ℕ) (p : ℕ × Option ℕ) (slots slot : ℕ) → slot_of_pair width p slots ≡ Some slot → IsSmall (pair_at width) p slots slot
pair_told width (key, value) slots slot e = elim (cases_Bool (nat_lt (place_of_value value) width && nat_lt (key * width + place_of_value value) slots)) [
  | inl is ↦ (
      let tests = and_parts (nat_lt (place_of_value value) width) (nat_lt (key * width + place_of_value value) slots) is in
      let small = ltb-true (place_of_value value) width tests.0 in
      let at : key * width + place_of_value value ≡ slot = same_slot _ slot (rw is at e) in
      let item : pair_at width (key * width + place_of_value value) ≡ pair key value =
      ap (λ (k : ℕ). pair k (number_of_entry ((key * width + place_of_value value) % width))) (div-mul-add key width (place_of_value value) small)
      ∙ ap (λ (v : ℕ). pair key (number_of_entry v)) (mod-mul-add key width (place_of_value value) small)
      ∙ ap (pair key) (value_place value) in
      record {
        is = sym item ∙ ap (pair_at width) at;
        within = subst (λ (m : ℕ). m < slots) at (ltb-true (key * width + place_of_value value) slots tests.1);
      })
  | inr is_not ↦ absurd (no_slot slot (rw is_not at e))
]

pair_has : (width : ℕ) → 0 < width → (n slots : ℕ) → n < slots → slot_of_pair width (pair_at width n) slots ≡ Some n
pair_has width wide n slots h =
    let whole : n / width * width + n % width ≡ n = div-add-mod' n width in
    let small : nat_lt (n % width) width ≡ true = lt-ltb (n % width) width (mod-lt n wide) in
    let within : nat_lt n slots ≡ true = lt-ltb n slots h in
    rw (place_value (n % width), small, whole, within) refl

pub pair_slots : (width : ℕ) → 0 < width → AreSlots pair_eq (slot_of_pair width) (pair_at width)
pair_slots width wide = record { same = same_pair; itself = pair_eq-itself; told = pair_told width; has = pair_has width wide }

module _ {A : Type 0} {eq : A → A → Bool} {place_of : A → ℕ → Option ℕ} {item_at : ℕ → A} (slots : AreSlots eq place_of item_at) where
  -- an item with no slot is none of those that have one
  other_item : (item : A) (size n : ℕ) → n < size → place_of item size ≡ None → eq (item_at n) item ≡ false
  other_item item size n h e =
      false_from_ne_true _ (λ same.
      no_slot n (sym e ∙ (ap (λ (a : A). place_of a size) (sym (slots.same (item_at n) item same)) ∙ slots.has n size h)))

  -- each slot has an item of its own
  slot_is : (m n : ℕ) → item_at m ≡ item_at n → m ≡ n
  slot_is m n e =
      same_slot m n (sym (slots.has m (m + n + 1) (omega arith)) ∙ (ap (λ (a : A). place_of a (m + n + 1)) e ∙ slots.has n (m + n + 1) (omega arith)))

  -- ---- one item more

  pub table_without :
      (table : List (Option ℕ)) (items : List A) (item : A)
      → place_of item (length table) ≡ None → HoldsNumbersOf eq item_at table items → HoldsNumbersOf eq item_at table (items ++ item ∷ [])
  table_without table items item e holds n h =
      holds n h ∙ sym (number_kept eq (item_at n) items item (other_item item (length table) n h e))

  pub table_taken :
      (table : List (Option ℕ)) (items : List A) (item : A) (slot k : ℕ)
      → place_of item (length table) ≡ Some slot → get_or table slot None ≡ Some k
      → HoldsNumbersOf eq item_at table items → HoldsNumbersOf eq item_at table (items ++ item ∷ [])
  table_taken table items item slot k e taken holds n h = elim (cases_Bool (eq (item_at n) item)) [
    | inr differ ↦ holds n h ∙ sym (number_kept eq (item_at n) items item differ)
    | inl same ↦ (
        let small = slots.told item (length table) slot e in
        let n_is : n ≡ slot = slot_is n slot (slots.same (item_at n) item same ∙ small.is) in
        let at : get_or table n None ≡ Some k = ap (λ (m : ℕ). get_or table m None) n_is ∙ taken in
        at ∙ sym (number_first eq (item_at n) items item k (sym (holds n h) ∙ at)))
  ]

  pub table_set :
      (table : List (Option ℕ)) (items : List A) (item : A) (slot : ℕ)
      → place_of item (length table) ≡ Some slot → get_or table slot None ≡ None → HoldsNumbersOf eq item_at table items
      → HoldsNumbersOf eq item_at (set table slot (Some (length items))) (items ++ item ∷ [])
  table_set table items item slot e free holds n h =
      let within : n < length table = omega (arith, length-set table slot (Some (length items)), h) in
      let small = slots.told item (length table) slot e in
      elim (cases_Bool (eq (item_at n) item)) [
        | inr differ ↦ (
            let other : n ≢ slot = λ same.
            true≢false (sym (ap (eq (item_at n)) (small.is ∙ ap item_at (sym same)) ∙ slots.itself (item_at n)) ∙ differ) in
            get_or-set_other table slot n (Some (length items)) None other
            ∙ holds n within
            ∙ sym (number_kept eq (item_at n) items item differ))
        | inl same ↦ (
            let n_is : n ≡ slot = slot_is n slot (slots.same (item_at n) item same ∙ small.is) in
            let none : number_in eq (item_at n) items ≡ None = sym (holds n within) ∙ ap (λ (m : ℕ). get_or table m None) n_is ∙ free in
            ap (λ (m : ℕ). get_or (set table slot (Some (length items))) m None) n_is
            ∙ get_or-set_same table slot (Some (length items)) None small.within
            ∙ sym (number_last eq (item_at n) items item none same))
      ]

  -- the items up to a place, and the one there
  next_item :
      (table : List (Option ℕ)) (items : List A) (i : ℕ) (item : A)
      → i < length items → item ≡ get_or items i item
      → HoldsNumbersOf eq item_at table (take i items ++ item ∷ []) → HoldsNumbersOf eq item_at table (take (i + 1) items)
  next_item table items i item h is holds =
      subst (λ (xs : List A). HoldsNumbersOf eq item_at table xs)
      (ap (λ (a : A). take i items ++ a ∷ []) is ∙ sym (take_more items i item h)) holds

  -- ---- the loop over the items: so many have been seen

  abbrev pub HasSeen : ℕ → ℕ → ℕ → List (Option ℕ) → List A → Type 0
  HasSeen number i size table items = (number ≡ i) × (length table ≡ size) × HoldsNumbersOf eq item_at table (take i items)

  same_places : (item : A) (m n : ℕ) (o : Option ℕ) → m ≡ n → o ≡ place_of item n → place_of item m ≡ o
  same_places item m n o e told = ap (place_of item) e ∙ sym told

  pub seen_without :
      (number i size : ℕ) (table : List (Option ℕ)) (items : List A) (item : A)
      → HasSeen number i size table items → i < length items → item ≡ get_or items i item → None ≡ place_of item size
      → HasSeen (number + 1) (i + 1) size table items
  seen_without number i size table items item seen h is told = (
    ap (λ (n : ℕ). n + 1) seen.0,
    seen.1,
    next_item table items i item h is (table_without table (take i items) item (same_places item (length table) size None seen.1 told) seen.2),
  )

  pub seen_taken :
      (number i size : ℕ) (table : List (Option ℕ)) (items : List A) (item : A) (slot : ℕ) (entry : Option ℕ)
      → HasSeen number i size table items → i < length items → item ≡ get_or items i item → Some slot ≡ place_of item size
      → entry ≡ get_or table slot None → is_some entry ≡ true
      → HasSeen (number + 1) (i + 1) size table items
  seen_taken number i size table items item slot None seen h is told at some = absurd (true≢false (sym some))
  seen_taken number i size table items item slot (Some k) seen h is told at some =
      let here = same_places item (length table) size (Some slot) seen.1 told in
      let taken = sym at in (
        ap (λ (n : ℕ). n + 1) seen.0,
        seen.1,
        next_item table items i item h is (table_taken table (take i items) item slot k here taken seen.2),
      )

  pub seen_set :
      (number i size : ℕ) (table : List (Option ℕ)) (items : List A) (item : A) (slot : ℕ) (entry : Option ℕ)
      → HasSeen number i size table items → i < length items → item ≡ get_or items i item → Some slot ≡ place_of item size
      → entry ≡ get_or table slot None → is_some entry ≡ false
      → HasSeen (number + 1) (i + 1) size (set table slot (Some number)) items
  seen_set number i size table items item slot (Some k) seen h is told at none = absurd (true≢false none)
  seen_set number i size table items item slot None seen h is told at none =
      let here = same_places item (length table) size (Some slot) seen.1 told in
      let free = sym at in
      let place : length (take i items) ≡ number = length-take-le i items (omega arith) ∙ sym seen.0 in
      let holds = table_set table (take i items) item slot here free seen.2 in (
        ap (λ (n : ℕ). n + 1) seen.0,
        length-set table slot (Some number) ∙ seen.1,
        next_item (set table slot (Some number)) items i item h is
            (subst (λ (n : ℕ). HoldsNumbersOf eq item_at (set table slot (Some n)) (take i items ++ item ∷ [])) place holds),
      )
