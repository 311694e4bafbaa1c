-- Lists and their fronts.
use Rattle.std.proofs.Common.{◌≡◌, ℕ, ◌+◌, ◌<◌, List, ◌∷◌, sym, ◌∙◌, ap, length, drop, get_or}
use Rattle.std.proofs.lemmas.List.{drop_more}

-- a list from a place on is the item there and the rest
pub drop_item : {X : Type 0} (xs : List X) (i : ℕ) (x : X) → i < length xs → x ≡ get_or xs i x → drop i xs ≡ x ∷ drop (i + 1) xs
drop_item xs i x within e = drop_more xs i x within ∙ ap (λ y. y ∷ drop (i + 1) xs) (sym e)
