-- Lists and their fronts.
use Rattle.std.proofs.Common.{◌≡◌, List, [], ◌∷◌, ◌++◌, Option, Some, None, refl, ap}
use Rattle.std.specs.Option.{option_or}

-- nothing behind a list
pub append-nil-right : {A : Type 0} (xs : List A) → xs ++ [] ≡ xs
append-nil-right [] = refl
append-nil-right (x ∷ xs) = ap (λ ys. x ∷ ys) (append-nil-right xs)

-- the first of three
pub option_or-assoc : {A : Type 0} (a b c : Option A) → option_or (option_or a b) c ≡ option_or a (option_or b c)
option_or-assoc None b c = refl
option_or-assoc (Some x) b c = refl
