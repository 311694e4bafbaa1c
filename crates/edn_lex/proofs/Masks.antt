-- The two lowest bits of a mask of bytes that are no digits.
use Rattle.std.proofs.Common.{◌≡◌, ℕ, zero, suc, ◌+◌, ◌-◌, ◌*◌, ◌/◌, ◌%◌, ◌<◌, ◌≤◌, min, List, [], ◌∷◌, length, take, drop, Bool, true, false, not, map, refl, sym, ap, ap₂, subst, ◌∙◌, arith, inl, inr}
use Rattle.std.specs.Char.{is_ascii_digit}
use Rattle.std.specs.Int.Bits.{bit_and, and_self, and_step}
use Rattle.std.specs.List.{list_all, prefix_len}
use Rattle.std.specs.Simd.Lanes.{mask_l}
use Rattle.std.proofs.lemmas.Bool.{and_from, cases_Bool}
use Rattle.std.proofs.lemmas.List.{length-map, map-id, take-take, drop-take, drop-drop}
use Rattle.std.proofs.lemmas.Simd.{trailing_mask_l}
use lib.Count.{count_trailing_zeros}
use Rattle.edn_lex.specs.Flags.{is_no_digit}

-- ---- a mask without its lowest bit

abbrev pub cleared : List Bool → List Bool
cleared [] = []
cleared (true ∷ bs) = false ∷ bs
cleared (false ∷ bs) = false ∷ cleared bs

halved : (a b m k : ℕ) → a / 2 ≡ m → b / 2 ≡ k → min (a % 2) (b % 2) ≡ 0 → bit_and a b ≡ bit_and m k * 2
halved a b m k h g low =
    let e : bit_and m k * 2 + 0 ≡ bit_and m k * 2 = omega arith in
    and_step a b ∙ ap₂ (λ (x y : ℕ). x + y) (ap₂ (λ (x y : ℕ). bit_and x y * 2) h g) low ∙ e

pub cleared_mask : (bs : List Bool) → 0 < mask_l bs → bit_and (mask_l bs) (mask_l bs - 1) ≡ mask_l (cleared bs)
cleared_mask [] some = absurd (omega (arith, some))
cleared_mask (true ∷ bs) some =
    let m = mask_l bs in
    let high : (1 + 2 * m) / 2 ≡ m = omega arith in
    let below : (1 + 2 * m - 1) / 2 ≡ m = omega arith in
    let one : (1 + 2 * m) % 2 ≡ 1 = omega arith in
    let none : (1 + 2 * m - 1) % 2 ≡ 0 = omega arith in
    let e : m * 2 ≡ zero + 2 * m = omega arith in
    halved (1 + 2 * m) (1 + 2 * m - 1) m m high below (ap₂ min one none) ∙ ap (λ (n : ℕ). n * 2) (and_self m) ∙ e
cleared_mask (false ∷ bs) some =
    let m = mask_l bs in
    let more : 0 < m = omega (arith, some) in
    let high : (zero + 2 * m) / 2 ≡ m = omega arith in
    let below : (zero + 2 * m - 1) / 2 ≡ m - 1 = omega (arith, more) in
    let none : (zero + 2 * m) % 2 ≡ 0 = omega arith in
    let one : (zero + 2 * m - 1) % 2 ≡ 1 = omega (arith, more) in
    let e : mask_l (cleared bs) * 2 ≡ zero + 2 * mask_l (cleared bs) = omega arith in
    halved (zero + 2 * m) (zero + 2 * m - 1) m (m - 1) high below (ap₂ min none one) ∙ ap (λ (n : ℕ). n * 2) (cleared_mask bs more) ∙ e

length-cleared : (bs : List Bool) → length (cleared bs) ≡ length bs
length-cleared [] = refl
length-cleared (true ∷ bs) = refl
length-cleared (false ∷ bs) = ap suc (length-cleared bs)

pub lowest : (bs : List Bool) → length bs ≤ 64 → 0 < mask_l (cleared bs) → count_trailing_zeros 64 (mask_l (cleared bs)) ≡ prefix_len not (cleared bs)
lowest bs short some =
    let same = map-id (cleared bs) in
    ap (λ (l : List Bool). count_trailing_zeros 64 (mask_l l)) (sym same) ∙ trailing_mask_l (λ b. b) 64 (cleared bs) (omega (arith, length-cleared bs)) (subst (λ (l : List Bool). 0 < mask_l l) (sym same) some)

-- ---- digits between two bytes that are none

some_bit : (bs : List Bool) → 0 < mask_l bs → prefix_len not bs < length bs
some_bit [] some = absurd (omega (arith, some))
some_bit (true ∷ bs) some = omega arith
some_bit (false ∷ bs) some = omega (arith, some_bit bs (omega (arith, some)))

digits_mapped : (xs : List ℕ) → prefix_len not (map is_no_digit xs) ≡ prefix_len is_ascii_digit xs
digits_mapped [] = refl
digits_mapped (x ∷ xs) = elim (cases_Bool (is_ascii_digit x)) [
  | inl is ↦ rw is (ap (λ (n : ℕ). 1 + n) (digits_mapped xs))
  | inr other ↦ rw other refl
]

all_digits : (xs : List ℕ) → list_all is_ascii_digit (take (prefix_len is_ascii_digit xs) xs) ≡ true
all_digits [] = refl
all_digits (x ∷ xs) = elim (cases_Bool (is_ascii_digit x)) [
  | inl is ↦
      let n = prefix_len is_ascii_digit xs in
      let len : prefix_len is_ascii_digit (x ∷ xs) ≡ suc n = rw is (omega arith) in
      subst (λ (k : ℕ). list_all is_ascii_digit (take k (x ∷ xs)) ≡ true) (sym len) (and_from (is_ascii_digit x) (list_all is_ascii_digit (take n xs)) is (all_digits xs))
  | inr other ↦ rw other refl
]

-- the second byte that is no digit, and the digits before it
pub record IsSecond (xs : List ℕ) (first second : ℕ) : Type 0 where
  pub order : first < second
  pub few : second < length xs
  pub digits : list_all is_ascii_digit (take (second - first - 1) (drop (first + 1) xs)) ≡ true

second_later : (x : ℕ) (xs : List ℕ) (first second : ℕ) → IsSecond xs first second → IsSecond (x ∷ xs) (1 + first) (1 + second)
second_later x xs first second h =
    let order = h.order in
    let few = h.few in
    let n : second - first - 1 ≡ 1 + second - (1 + first) - 1 = omega arith in
    let k : suc (first + 1) ≡ 1 + first + 1 = omega arith in
    record {
      order = omega arith;
      few = omega arith;
      digits = subst (λ (j : ℕ). list_all is_ascii_digit (take (1 + second - (1 + first) - 1) (drop j (x ∷ xs))) ≡ true) k
          (subst (λ (j : ℕ). list_all is_ascii_digit (take j (drop (first + 1) xs)) ≡ true) n h.digits);
    }

second_here : (x : ℕ) (xs : List ℕ) (n : ℕ) → n < length xs → list_all is_ascii_digit (take n xs) ≡ true → IsSecond (x ∷ xs) 0 (1 + n)
second_here x xs n few digits =
    let e : n ≡ 1 + n - 0 - 1 = omega arith in
    record {
      order = omega arith;
      few = omega (arith, few);
      digits = subst (λ (j : ℕ). list_all is_ascii_digit (take j xs) ≡ true) e digits;
    }

pub second_found : (xs : List ℕ) → 0 < mask_l (cleared (map is_no_digit xs)) → IsSecond xs (prefix_len is_ascii_digit xs) (prefix_len not (cleared (map is_no_digit xs)))
second_found [] some = absurd (omega (arith, some))
second_found (x ∷ xs) some = elim (cases_Bool (is_ascii_digit x)) [
  | inl is ↦
      let more : 0 < zero + 2 * mask_l (cleared (map is_no_digit xs)) = rw is at some in
      rw is (second_later x xs (prefix_len is_ascii_digit xs) (prefix_len not (cleared (map is_no_digit xs))) (second_found xs (omega (arith, more))))
  | inr other ↦
      let more : 0 < zero + 2 * mask_l (map is_no_digit xs) = rw other at some in
      let few = some_bit (map is_no_digit xs) (omega (arith, more)) in
      rw other (second_here x xs (prefix_len not (map is_no_digit xs)) (omega (arith, few, length-map xs is_no_digit))
      (subst (λ (k : ℕ). list_all is_ascii_digit (take k xs) ≡ true) (sym (digits_mapped xs)) (all_digits xs)))
]

-- the digits between them, in the whole text
pub bytes_between :
    (text : List ℕ) (at first second m n : ℕ) → first ≡ m → second ≡ n → n < 16 → IsSecond (take 16 (drop at text)) m n →
    list_all is_ascii_digit (take (second - first - 1) (drop (at + first + 1) text)) ≡ true
bytes_between text at first second m n first_is second_is few h =
    let order = h.order in
    let ys = drop at text in
    let len = n - m - 1 in
    let rest : 16 ≡ m + 1 + (16 - (m + 1)) = omega arith in
    let behind : drop (m + 1) (take 16 ys) ≡ take (16 - (m + 1)) (drop (m + 1) ys) = ap (λ (k : ℕ). drop (m + 1) (take k ys)) rest ∙ drop-take (m + 1) (16 - (m + 1)) ys in
    let cut : take len (drop (m + 1) (take 16 ys)) ≡ take len (drop (m + 1) ys) = ap (take len) behind ∙ take-take len (16 - (m + 1)) (drop (m + 1) ys) (omega arith) in
    let place : at + (m + 1) ≡ at + first + 1 = omega arith in
    let lens : len ≡ second - first - 1 = omega arith in
    subst (λ (k : ℕ). list_all is_ascii_digit (take k (drop (at + first + 1) text)) ≡ true) lens
    (ap (λ (zs : List ℕ). list_all is_ascii_digit (take len zs)) (sym (drop-drop (m + 1) at text ∙ ap (λ (k : ℕ). drop k text) place)) ∙ ap (list_all is_ascii_digit) (sym cut) ∙ h.digits)
