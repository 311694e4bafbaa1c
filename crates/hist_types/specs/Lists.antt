-- Lists by what they contain.
use Rattle.std.specs.Prelude.{◌↔◌, List, [], ◌∷◌, Contains, ⊤}

-- the list has the things of which this is true, and no others
abbrev pub HasExactly : {A : Type 0} → List A → (A → Type 0) → Type 0
HasExactly {A} xs Is = (x : A) → Contains xs x ↔ Is x

-- nothing comes twice in the list
abbrev pub NoneTwice : {A : Type 0} → List A → Type 0
NoneTwice {A} [] = ⊤
NoneTwice {A} (x ∷ xs) = ¬ Contains xs x × NoneTwice xs
