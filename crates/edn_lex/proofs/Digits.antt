-- Digits that are found by one look at several bytes.
use Rattle.std.proofs.Common.{◌≡◌, ℕ, zero, suc, ◌+◌, ◌-◌, ◌%◌, ◌^◌, ◌≤◌, leb, List, [], ◌∷◌, length, take, Bool, true, cond, not, replicate, map, refl, sym, ap, ap₂, subst, ◌∙◌, arith, inl, inr, Fits, w8}
use Rattle.std.specs.Char.{is_ascii_digit}
use Rattle.std.specs.Int.Bits.{bit_and}
use Rattle.std.specs.List.{list_all, prefix_len}
use Rattle.std.specs.Simd.Lanes.{mask_l}
use Rattle.std.proofs.Math.Bool.{not-not}
use Rattle.std.proofs.lemmas.Bool.{agree_below, agree_below_at, and_from, cases_Bool}
use Rattle.std.proofs.lemmas.List.{length-map}
use Rattle.std.proofs.lemmas.Simd.{map-map, mask_l-mod, zip2_of_maps, zip2_splat, zip2_splat_left}
use lib.Lanes.{Each1, top, zip2}
use Rattle.edn_lex.specs.Flags.{is_no_digit, is_plain, is_no_plain}

-- ---- lanes

each_byte : (f : ℕ → ℕ) (p : ℕ → Bool) → agree_below (λ x. top 7 (f x)) p 256 ≡ true → (v : List ℕ) → Each1 (Fits w8) v → map (top 7) (map f v) ≡ map p v
each_byte f p all [] fits = refl
each_byte f p all (x ∷ xs) fits = ap₂ (λ a b. a ∷ b) (agree_below_at (λ y. top 7 (f y)) p 256 x all fits.0.fits) (each_byte f p all xs fits.1)

-- a mask that is computed lane by lane is held to a test at each of the 256 bytes
masked : (f : ℕ → ℕ) (p : ℕ → Bool) (v z : List ℕ) → length v ≤ 64 → Each1 (Fits w8) v → z ≡ map f v → agree_below (λ x. top 7 (f x)) p 256 ≡ true → mask_l (map (top 7) z) % 2 ^ 64 ≡ mask_l (map p v)
masked f p v z short fits e all =
    ap (λ l. mask_l l % 2 ^ 64) (ap (map (top 7)) e ∙ each_byte f p all v fits) ∙ mask_l-mod (map p v) 64 (omega (arith, length-map v p))

abbrev less_48 : ℕ → ℕ → ℕ
less_48 a b = (a + (256 - b)) % 256

abbrev at_most : ℕ → ℕ → ℕ
at_most a b = cond (leb a b) 255 0

pub no_digits : (v : List ℕ) → length v ≡ 16 → Each1 (Fits w8) v → mask_l (map (top 7) (zip2 at_most (replicate 16 10) (zip2 less_48 v (replicate 16 48)))) % 2 ^ 64 ≡ mask_l (map is_no_digit v)
no_digits v long fits =
    let less = zip2_splat less_48 v 16 48 long in
    let shifted = map (λ x. less_48 x 48) v in
    masked (λ x. at_most 10 (less_48 x 48)) is_no_digit v _ (omega (arith, long)) fits
    (ap (zip2 at_most (replicate 16 10)) less ∙ zip2_splat_left at_most 10 16 shifted (length-map v (λ x. less_48 x 48) ∙ long) ∙ map-map (at_most 10) (λ x. less_48 x 48) v) refl

-- whether each byte is from `low` on out of a range, lane by lane
out_of : (n low : ℕ) (v : List ℕ) → length v ≡ 16 → zip2 at_most (replicate 16 n) (zip2 less_48 v (replicate 16 low)) ≡ map (λ x. at_most n (less_48 x low)) v
out_of n low v long =
    ap (zip2 at_most (replicate 16 n)) (zip2_splat less_48 v 16 low long)
    ∙ zip2_splat_left at_most n 16 (map (λ x. less_48 x low) v) (length-map v (λ x. less_48 x low) ∙ long) ∙ map-map (at_most n) (λ x. less_48 x low) v

pub no_plains :
    (v : List ℕ) → length v ≡ 16 → Each1 (Fits w8) v →
    mask_l (map (top 7) (zip2 bit_and (zip2 at_most (replicate 16 11) (zip2 less_48 v (replicate 16 48))) (zip2 at_most (replicate 16 26) (zip2 less_48 v (replicate 16 97))))) % 2 ^ 64 ≡ mask_l (map is_no_plain v)
no_plains v long fits =
    masked (λ x. bit_and (at_most 11 (less_48 x 48)) (at_most 26 (less_48 x 97))) is_no_plain v _ (omega (arith, long)) fits
    (zip2_of_maps bit_and (λ x. at_most 11 (less_48 x 48)) (λ x. at_most 26 (less_48 x 97)) v (out_of 11 48 v long) (out_of 26 97 v long)) refl

-- ---- counting them

pub digits_before : (xs : List ℕ) → prefix_len (λ x. not (is_no_digit x)) xs ≡ prefix_len is_ascii_digit xs
digits_before [] = refl
digits_before (x ∷ xs) = ap₂ (λ (t : Bool) (n : ℕ). cond t (1 + n) 0) (not-not (is_ascii_digit x)) (digits_before xs)

pub plains_before : (xs : List ℕ) → prefix_len (λ x. not (is_no_plain x)) xs ≡ prefix_len is_plain xs
plains_before [] = refl
plains_before (x ∷ xs) = ap₂ (λ (t : Bool) (n : ℕ). cond t (1 + n) 0) (not-not (is_plain x)) (plains_before xs)

pub counted_pass : (p : ℕ → Bool) (n : ℕ) (xs : List ℕ) → list_all p (take (prefix_len p (take n xs)) xs) ≡ true
counted_pass p zero xs = refl
counted_pass p (suc n) [] = refl
counted_pass p (suc n) (x ∷ xs) = elim (cases_Bool (p x)) [
  | inl is ↦
      let m = prefix_len p (take n xs) in
      let len : prefix_len p (x ∷ take n xs) ≡ suc m = rw is (omega arith) in
      subst (λ (k : ℕ). list_all p (take k (x ∷ xs)) ≡ true) (sym len) (and_from (p x) (list_all p (take m xs)) is (counted_pass p n xs))
  | inr other ↦ rw other refl
]
