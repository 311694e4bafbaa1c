-- Texts that begin with the same bytes.
use Rattle.std.proofs.Common.{◌≡◌, ℕ, suc, ◌+◌, ◌%◌, ◌^◌, ◌<◌, ◌≤◌, List, [], ◌∷◌, length, take, Bool, true, false, cond, not, eqb, ◌==◌, map, refl, sym, ap, ap₂, subst, ◌∙◌, arith, take-take}
use Rattle.std.specs.List.{prefix_len}
use Rattle.std.specs.Simd.Lanes.{mask_l}
use Rattle.std.proofs.lemmas.Bool.{eqb-true}
use Rattle.std.proofs.lemmas.List.{length-take}
use Rattle.std.proofs.lemmas.List.Sums.{prefix_len-le-length}
use Rattle.std.proofs.lemmas.Simd.{mask_l-mod, leading_from_mask_l, trailing_mask_l}
use lib.Count.{count_trailing_zeros}
use lib.Lanes.{top, zip2}
use Rattle.op_view.specs.Mops.{is_other}

-- ---- lanes

abbrev differs : ℕ → ℕ → ℕ
differs a b = cond (not (eqb a b)) 255 0

tops : (xs ys : List ℕ) → map (top 7) (zip2 differs xs ys) ≡ zip2 is_other xs ys
tops [] ys = refl
tops (x ∷ xs) [] = refl
tops (x ∷ xs) (y ∷ ys) = ap₂ (λ a b. a ∷ b) (at_one (eqb x y)) (tops xs ys)
  where
    at_one : (b : Bool) → top 7 (cond (not b) 255 0) ≡ not b
    at_one true = refl
    at_one false = refl

few : (xs ys : List ℕ) → length (zip2 is_other xs ys) ≤ length xs
few [] ys = omega arith
few (x ∷ xs) [] = omega arith
few (x ∷ xs) (y ∷ ys) = let rest = few xs ys in omega arith

pub lanes_differ : (xs ys : List ℕ) → length xs ≤ 64 → mask_l (map (top 7) (zip2 differs xs ys)) % 2 ^ 64 ≡ mask_l (zip2 is_other xs ys)
lanes_differ xs ys short = ap (λ l. mask_l l % 2 ^ 64) (tops xs ys) ∙ mask_l-mod (zip2 is_other xs ys) 64 (omega (arith, few xs ys))

-- ---- the first bytes that aren't the same

abbrev pairs : List ℕ → List ℕ → List (ℕ × ℕ)
pairs xs ys = zip2 (λ x y. (x, y)) xs ys

abbrev are_other : ℕ × ℕ → Bool
are_other p = is_other p.0 p.1

paired : (xs ys : List ℕ) → zip2 is_other xs ys ≡ map are_other (pairs xs ys)
paired [] ys = refl
paired (x ∷ xs) [] = refl
paired (x ∷ xs) (y ∷ ys) = ap (λ l. is_other x y ∷ l) (paired xs ys)

length-pairs : (xs ys : List ℕ) → length xs ≡ length ys → length (pairs xs ys) ≡ length xs
length-pairs [] ys long = refl
length-pairs (x ∷ xs) [] long = absurd (omega arith)
length-pairs (x ∷ xs) (y ∷ ys) long = ap suc (length-pairs xs ys (omega arith))

one_more : (x y : ℕ) (xs ys : List ℕ) (n : ℕ) (same : Bool) → (same ≡ true → x ≡ y) → take n xs ≡ take n ys
    → take (cond (not (not same)) (1 + n) 0) (x ∷ xs) ≡ take (cond (not (not same)) (1 + n) 0) (y ∷ ys)
one_more x y xs ys n true is rest =
    let one : 1 + n ≡ suc n = omega arith in
    ap (λ k. take k (x ∷ xs)) one ∙ (ap₂ (λ a l. a ∷ l) (is refl) rest ∙ sym (ap (λ k. take k (y ∷ ys)) one))
one_more x y xs ys n false is rest = refl

abbrev same_len : List ℕ → List ℕ → ℕ
same_len xs ys = prefix_len (λ p. not (are_other p)) (pairs xs ys)

fronts : (xs ys : List ℕ) → length xs ≡ length ys → take (same_len xs ys) xs ≡ take (same_len xs ys) ys
fronts [] [] long = refl
fronts [] (y ∷ ys) long = absurd (omega arith)
fronts (x ∷ xs) [] long = absurd (omega arith)
fronts (x ∷ xs) (y ∷ ys) long = one_more x y xs ys (same_len xs ys) (x == y) (λ is. eqb-true x y is) (fronts xs ys (omega arith))

pub none_other : (a b : List ℕ) → 16 ≤ length a → 16 ≤ length b → mask_l (zip2 is_other (take 16 a) (take 16 b)) ≡ 0 → take 16 a ≡ take 16 b
none_other a b first second none =
    let xs = take 16 a in
    let ys = take 16 b in
    let long : length xs ≡ 16 = omega (arith, length-take 16 a) in
    let as_long : length xs ≡ length ys = omega (arith, long, length-take 16 b) in
    let n : same_len xs ys ≡ 16 = leading_from_mask_l are_other (pairs xs ys) (ap mask_l (sym (paired xs ys)) ∙ none) ∙ (length-pairs xs ys as_long ∙ long) in
    sym (take-take 16 16 a (omega arith)) ∙ (subst (λ k. take k xs ≡ take k ys) n (fronts xs ys as_long) ∙ take-take 16 16 b (omega arith))

pub first_other : (a b : List ℕ) → 16 ≤ length a → 16 ≤ length b → 0 < mask_l (zip2 is_other (take 16 a) (take 16 b))
    → take (count_trailing_zeros 64 (mask_l (zip2 is_other (take 16 a) (take 16 b)))) a ≡ take (count_trailing_zeros 64 (mask_l (zip2 is_other (take 16 a) (take 16 b)))) b
first_other a b first second some =
    let xs = take 16 a in
    let ys = take 16 b in
    let long : length xs ≡ 16 = omega (arith, length-take 16 a) in
    let as_long : length xs ≡ length ys = omega (arith, long, length-take 16 b) in
    let same = ap mask_l (paired xs ys) in
    let n : count_trailing_zeros 64 (mask_l (zip2 is_other xs ys)) ≡ same_len xs ys =
    ap (count_trailing_zeros 64) same ∙ trailing_mask_l are_other 64 (pairs xs ys) (omega (arith, long, length-pairs xs ys as_long)) (omega (arith, some, same)) in
    let within : same_len xs ys ≤ 16 = omega (arith, long, length-pairs xs ys as_long, prefix_len-le-length (λ p. not (are_other p)) (pairs xs ys)) in
    subst (λ k. take k a ≡ take k b) (sym n)
    (sym (take-take (same_len xs ys) 16 a within) ∙ (fronts xs ys as_long ∙ take-take (same_len xs ys) 16 b within))
