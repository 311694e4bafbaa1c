-- Marks by rounds.
use Rattle.std.proofs.Common.{◌≡◌, ℕ, ◌<◌, List, [], ◌∷◌, length, All, map, replicate, eqb, false, true, refl, zero, suc, arith, ap, ◌∙◌, set}
use Rattle.std.proofs.lemmas.Bool.Decides.{nat_tests}
use Rattle.std.proofs.lemmas.List.{map-set}
use Rattle.std.proofs.lemmas.List.Elements.{All-head, All-tail}

-- none is marked in a later round
pub unmarked : (r : ℕ) (xs : List ℕ) → All (λ x. x < r) xs → map (λ x. eqb x r) xs ≡ replicate (length xs) false
unmarked r [] h = refl
unmarked r (x ∷ xs) h =
    let lt : x < r = All-head (λ x. x < r) x xs h in
    let e : eqb x r ≡ false = grind (arith, nat_tests, lt) in
    let rest : map (λ x. eqb x r) xs ≡ replicate (length xs) false = unmarked r xs (All-tail (λ x. x < r) x xs h) in
    cc (e, rest)

pub marked : (r i : ℕ) (xs : List ℕ) → map (λ x. eqb x r) (set xs i r) ≡ set (map (λ x. eqb x r) xs) i true
marked r i xs =
    let e : eqb r r ≡ true = grind (arith, nat_tests) in
    map-set (λ x. eqb x r) xs i r ∙ ap (λ b. set (map (λ x. eqb x r) xs) i b) e

pub unmarked_start : (n : ℕ) → map (λ x. eqb x 1) (replicate n 0) ≡ replicate n false
unmarked_start zero = refl
unmarked_start (suc n) = ap (λ rest. false ∷ rest) (unmarked_start n)
