-- Members of lists, by recursion: of what is appended, filtered, mapped, joined, or there on a condition.
use Rattle.std.proofs.Common.{◌≡◌, ◌⊎◌, inl, inr, ℕ, zero, suc, ◌<◌, List, [], ◌∷◌, ◌++◌, length, get_or, Bool, true, false, filter, map, flat_map, if◌then◌else◌, ap, refl, sym, ◌∙◌, subst, arith}
use Rattle.std.specs.List.{Contains}

-- x is a member of the list
abbrev pub In : {X : Type 0} → X → List X → Type 0
In x [] = ⊥
In x (y ∷ ys) = (y ≡ x) ⊎ In x ys

in_at : {X : Type 0} (x : X) (ys : List X) (k : ℕ) (below : k < length ys) → get_or ys k x ≡ x → In x ys
in_at x [] k below here = let none : ⊥ = omega (arith, below) in elim none [ ]
in_at x (y ∷ ys) zero below here = inl here
in_at x (y ∷ ys) (suc k) below here = inr (in_at x ys k (omega (arith, below)) here)

pub in_from_Contains : {X : Type 0} (x : X) (ys : List X) → Contains ys x → In x ys
in_from_Contains x ys c = in_at x ys c.0 c.1 c.2

pub Contains_from_in : {X : Type 0} (x : X) (ys : List X) → In x ys → Contains ys x
Contains_from_in x [] i = elim i [ ]
Contains_from_in x (y ∷ ys) (inl e) = (0, omega arith, e)
Contains_from_in x (y ∷ ys) (inr i) = let c = Contains_from_in x ys i in (suc c.0, omega (arith, c.1), c.2)

pub in_front : {X : Type 0} (x : X) (xs ys : List X) → In x xs → In x (xs ++ ys)
in_front x [] ys i = elim i [ ]
in_front x (z ∷ xs) ys (inl e) = inl e
in_front x (z ∷ xs) ys (inr i) = inr (in_front x xs ys i)

pub in_back : {X : Type 0} (x : X) (xs ys : List X) → In x ys → In x (xs ++ ys)
in_back x [] ys i = i
in_back x (z ∷ xs) ys i = inr (in_back x xs ys i)

pub in_append : {X : Type 0} (x : X) (xs ys : List X) → In x (xs ++ ys) → In x xs ⊎ In x ys
in_append x [] ys i = inr i
in_append x (z ∷ xs) ys (inl e) = inl (inl e)
in_append x (z ∷ xs) ys (inr i) = elim (in_append x xs ys i) [ inl j ↦ inl (inr j) | inr j ↦ inr j ]

-- a member of what f gives for each of them
pub in_each : {X Y : Type 0} (f : X → List Y) (y : Y) (x : X) (xs : List X) → In x xs → In y (f x) → In y (flat_map f xs)
in_each f y x [] j i = elim j [ ]
in_each f y x (z ∷ xs) (inl e) i = in_front y (f z) (flat_map f xs) (subst (λ w. In y (f w)) (sym e) i)
in_each f y x (z ∷ xs) (inr j) i = in_back y (f z) (flat_map f xs) (in_each f y x xs j i)

pub in_some : {X Y : Type 0} (f : X → List Y) (y : Y) (xs : List X) → In y (flat_map f xs) → (x : X) × In x xs × In y (f x)
in_some f y [] i = elim i [ ]
in_some f y (z ∷ xs) i =
    elim (in_append y (f z) (flat_map f xs) i) [
      | inl j ↦ (z, inl refl, j)
      | inr j ↦ let found = in_some f y xs j in (found.0, inr found.1, found.2)
    ]

pub in_mapped : {X Y : Type 0} (f : X → Y) (x : X) (xs : List X) → In x xs → In (f x) (map f xs)
in_mapped f x [] i = elim i [ ]
in_mapped f x (z ∷ xs) (inl e) = inl (ap f e)
in_mapped f x (z ∷ xs) (inr i) = inr (in_mapped f x xs i)

pub in_map : {X Y : Type 0} (f : X → Y) (y : Y) (xs : List X) → In y (map f xs) → (x : X) × In x xs × (f x ≡ y)
in_map f y [] i = elim i [ ]
in_map f y (z ∷ xs) (inl e) = (z, inl refl, e)
in_map f y (z ∷ xs) (inr i) = let found = in_map f y xs i in (found.0, inr found.1, found.2)

-- a member of a list that is there only where the test says so, or only where it doesn't
pub in_if : {X : Type 0} (x : X) (test : Bool) (xs : List X) → In x (if test then xs else []) → (test ≡ true) × In x xs
in_if x true xs i = (refl, i)
in_if x false xs i = elim i [ ]

pub in_unless : {X : Type 0} (x : X) (test : Bool) (xs : List X) → In x (if test then [] else xs) → (test ≡ false) × In x xs
in_unless x true xs i = elim i [ ]
in_unless x false xs i = (refl, i)

kept : {X : Type 0} (x z : X) (passes : Bool) (rest xs : List X) → In x (if passes then z ∷ rest else rest) → (In x rest → In x xs) → In x (z ∷ xs)
kept x z true rest xs (inl e) further = inl e
kept x z true rest xs (inr i) further = inr (further i)
kept x z false rest xs i further = inr (further i)

pub in_filter : {X : Type 0} (p : X → Bool) (x : X) (xs : List X) → In x (filter p xs) → In x xs
in_filter p x [] i = elim i [ ]
in_filter p x (z ∷ xs) i = kept x z (p z) (filter p xs) xs i (in_filter p x xs)

stays : {X : Type 0} (x z : X) (passes : Bool) (rest : List X) → In x rest → In x (if passes then z ∷ rest else rest)
stays x z true rest i = inr i
stays x z false rest i = i

pub in_filtered : {X : Type 0} (p : X → Bool) (x : X) (xs : List X) → In x xs → p x ≡ true → In x (filter p xs)
in_filtered p x [] i passes = elim i [ ]
in_filtered p x (z ∷ xs) (inl e) passes =
    subst (λ b. In x (if b then z ∷ filter p xs else filter p xs)) (sym (ap p e ∙ passes)) (inl e)
in_filtered p x (z ∷ xs) (inr i) passes = stays x z (p z) (filter p xs) (in_filtered p x xs i passes)

passes_by :
    {X : Type 0} (p : X → Bool) (x z : X) (passes : Bool) (rest : List X)
    → p z ≡ passes
    → In x (if passes then z ∷ rest else rest)
    → (In x rest → p x ≡ true)
    → p x ≡ true
passes_by p x z true rest e (inl here) further = sym (ap p here) ∙ e
passes_by p x z true rest e (inr i) further = further i
passes_by p x z false rest e i further = further i

pub passes_filter : {X : Type 0} (p : X → Bool) (x : X) (xs : List X) → In x (filter p xs) → p x ≡ true
passes_filter p x [] i = elim i [ ]
passes_filter p x (z ∷ xs) i = passes_by p x z (p z) (filter p xs) refl i (passes_filter p x xs)
