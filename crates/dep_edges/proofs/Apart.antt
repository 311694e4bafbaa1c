-- Lists in which nothing is twice.
use Rattle.std.proofs.Common.{◌≡◌, List, [], ◌∷◌, Bool, true, false, if◌then◌else◌, filter, flat_map, refl, sym, subst, inl, inr}
use Rattle.hist_types.proofs.Members.{In, in_some, in_filter}
use Rattle.history_laws.proofs.WrittenOnce.{AreApart, apart_append}

-- where each of the lists is apart, and no two of them have a member in common
pub apart_each :
    {X Y : Type 0} (f : X → List Y) (xs : List X)
    → AreApart xs
    → ((x : X) → In x xs → AreApart (f x))
    → ((x z : X) (y : Y) → In x xs → In z xs → In y (f x) → In y (f z) → x ≡ z)
    → AreApart (flat_map f xs)
apart_each f [] a each one = tt
apart_each f (x ∷ xs) a each one =
    apart_append (f x) (flat_map f xs) (each x (inl refl)) (apart_each f xs a.1 (λ z i. each z (inr i)) (λ w z y i j. one w z y (inr i) (inr j))) (λ y i j.
    let found = in_some f y xs j in
    let same : x ≡ found.0 = one x found.0 y (inl refl) (inr found.1) i found.2 in
    a.0 (subst (λ z. In z xs) (sym same) found.1))

kept_apart : {X : Type 0} (passes : Bool) (x : X) (ys xs : List X) → ¬ In x xs → ((z : X) → In z ys → In z xs) → AreApart ys → AreApart (if passes then x ∷ ys else ys)
kept_apart true x ys xs new among a = ((λ i. new (among x i)), a)
kept_apart false x ys xs new among a = a

pub apart_filter : {X : Type 0} (p : X → Bool) (xs : List X) → AreApart xs → AreApart (filter p xs)
apart_filter p [] a = tt
apart_filter p (x ∷ xs) a = kept_apart (p x) x (filter p xs) xs a.0 (λ z i. in_filter p z xs i) (apart_filter p xs a.1)

pub apart_if : {X : Type 0} (test : Bool) (xs : List X) → AreApart xs → AreApart (if test then xs else [])
apart_if true xs a = a
apart_if false xs a = tt

pub apart_unless : {X : Type 0} (test : Bool) (x : X) → AreApart (if test then [] else x ∷ [])
apart_unless true x = tt
apart_unless false x = ((λ i. i), tt)
