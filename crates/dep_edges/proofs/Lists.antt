-- Lists by place: one made of another, and what is gathered from each item.
use Rattle.std.proofs.Common.{◌≡◌, ℕ, zero, suc, ◌<◌, List, [], ◌∷◌, ◌++◌, length, map, flat_map, Some, unwrap_or, slice_get, All, refl, sym, ◌∙◌, ap, subst, arith, inl, inr}
use Rattle.std.specs.List.{AllByRecursion}
use Rattle.std.proofs.lemmas.List.Elements.{All-from_recursion}
use Rattle.std.proofs.lemmas.Option.{none-some, same_Some}
use Rattle.hist_types.proofs.Members.{In}

by_recursion : {X : Type 0} (P : X → Type 0) (xs : List X) → ((x : X) → In x xs → P x) → AllByRecursion P xs
by_recursion P [] each = tt
by_recursion P (x ∷ xs) each = (each x (inl refl), by_recursion P xs (λ y i. each y (inr i)))

pub all_in : {X : Type 0} (P : X → Type 0) (xs : List X) → ((x : X) → In x xs → P x) → All P xs
all_in P xs each = All-from_recursion P xs (by_recursion P xs each)

-- ---- two lists, made alike

pub alike_at :
    {A B C : Type 0} (f : A → C) (g : B → C) (xs : List A) (ys : List B) (k : ℕ) (x : A) (d : B)
    → map f xs ≡ map g ys
    → slice_get xs k ≡ Some x
    → f x ≡ g (unwrap_or (slice_get ys k) d)
alike_at f g [] ys k x d e at = elim (none-some x at) [ ]
alike_at f g (a ∷ xs) [] k x d e at = let none : ⊥ = cc in elim none [ ]
alike_at f g (a ∷ xs) (b ∷ ys) zero x d e at = let is : a ≡ x = same_Some a x at in let same : f a ≡ g b = cc in sym (ap f is) ∙ same
alike_at f g (a ∷ xs) (b ∷ ys) (suc k) x d e at = let rest : map f xs ≡ map g ys = cc in alike_at f g xs ys k x d rest at

-- items by their places
pub items_at :
    {X : Type 0} (xs : List X) (d : X) (ns : List ℕ) (vs : List X)
    → map (slice_get xs) ns ≡ map Some vs
    → map (λ n. unwrap_or (slice_get xs n) d) ns ≡ vs
items_at xs d [] [] e = refl
items_at xs d [] (v ∷ vs) e = let none : ⊥ = cc in elim none [ ]
items_at xs d (n ∷ ns) [] e = let none : ⊥ = cc in elim none [ ]
items_at xs d (n ∷ ns) (v ∷ vs) e =
    let first : slice_get xs n ≡ Some v = cc in
    let rest : map (slice_get xs) ns ≡ map Some vs = cc in
    ap (λ o. unwrap_or o d ∷ map (λ n. unwrap_or (slice_get xs n) d) ns) first ∙ ap (λ us. v ∷ us) (items_at xs d ns vs rest)

within : {X : Type 0} (xs : List X) (n : ℕ) (x : X) → slice_get xs n ≡ Some x → n < length xs
within [] n x e = elim (none-some x e) [ ]
within (y ∷ xs) zero x e = omega arith
within (y ∷ xs) (suc n) x e = let rest = within xs n x e in omega (arith, rest)

pub places_within :
    {X : Type 0} (xs : List X) (ns : List ℕ) (vs : List X)
    → map (slice_get xs) ns ≡ map Some vs
    → (n : ℕ)
    → In n ns
    → n < length xs
places_within xs [] vs e n i = elim i [ ]
places_within xs (m ∷ ns) [] e n i = let none : ⊥ = cc in elim none [ ]
places_within xs (m ∷ ns) (v ∷ vs) e n (inl is) =
    let first : slice_get xs m ≡ Some v = cc in subst (λ k. k < length xs) is (within xs m v first)
places_within xs (m ∷ ns) (v ∷ vs) e n (inr i) = let rest : map (slice_get xs) ns ≡ map Some vs = cc in places_within xs ns vs rest n i

pub within_at : {X : Type 0} (xs : List X) (n : ℕ) (x : X) → slice_get xs n ≡ Some x → n < length xs
within_at xs n x e = within xs n x e

-- ---- what is gathered

pub gathered : {A B E : Type 0} (f : A → List E) (g : B → List E) (h : A → B) (xs : List A) → ((x : A) → f x ≡ g (h x)) → flat_map f xs ≡ flat_map g (map h xs)
gathered f g h [] same = refl
gathered f g h (x ∷ xs) same = ap (λ es. es ++ flat_map f xs) (same x) ∙ ap (λ es. g (h x) ++ es) (gathered f g h xs same)
