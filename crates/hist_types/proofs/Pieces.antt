-- Bytes taken piece by piece.
use Rattle.std.proofs.Common.{◌≡◌, ℕ, ◌+◌, ◌≤◌, ◌-◌, List, ◌++◌, sym, ◌∙◌, ap, take, drop, length, arith}
use Rattle.std.proofs.lemmas.List.{take-append-drop, drop-take, length-drop, length-take, take_all, take-take}

-- a piece of the rest lies within the whole
pub piece_within : (xs : List ℕ) (done n : ℕ) → done ≤ length xs → n ≤ length (take (length xs - done) (drop done xs)) → done + n ≤ length xs
piece_within xs done n h k = omega (arith, simp (length-take, length-drop) at k)

-- a front of a list, and a piece behind it
front_and_piece : (xs : List ℕ) (done n : ℕ) → take done xs ++ take n (drop done xs) ≡ take (done + n) xs
front_and_piece xs done n =
    ap (λ ys. ys ++ take n (drop done xs)) (sym (take-take done (done + n) xs (omega arith)))
    ∙ (ap (λ ys. take done (take (done + n) xs) ++ ys) (sym (drop-take done n xs)) ∙ take-append-drop done (take (done + n) xs))

-- what was done, and a piece of the rest
pub front_more : (xs : List ℕ) (done n : ℕ) → take done xs ++ take n (take (length xs - done) (drop done xs)) ≡ take (done + n) xs
front_more xs done n =
    let whole : take (length xs - done) (drop done xs) ≡ drop done xs = take_all (length xs - done) (drop done xs) (omega (arith, length-drop done xs)) in
    ap (λ ys. take done xs ++ take n ys) whole ∙ front_and_piece xs done n
