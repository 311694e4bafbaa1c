-- The first thing that is found along a list, and how far nothing was found.
use Rattle.std.proofs.Common.{◌≡◌, ℕ, zero, suc, ◌+◌, ◌<◌, List, [], ◌∷◌, ◌++◌, length, get_or, take, flat_map, Option, Some, None, unwrap_or, slice_get, refl, sym, ◌∙◌, ap, arith, append-nil}
use Rattle.std.proofs.lemmas.Grind.{take_at_read}
use Rattle.std.proofs.lemmas.List.Concat.{flat_map-append}
use Rattle.std.proofs.lemmas.Option.{unwrap_or-slice_get, slice_get-get_or}
use Rattle.hist_types.specs.Phenomena.{first_of}
use Rattle.hist_types.specs.Transactions.{Transaction, Open}
use Rattle.hist_types.proofs.Members.{In}
use Rattle.dep_edges.specs.Tables.{IsPlace, txn_at}
use Rattle.dep_edges.proofs.Writers.{in_at}

both_none : {A : Type 0} (xs ys : List A) → xs ++ ys ≡ [] → (xs ≡ []) × (ys ≡ [])
both_none [] ys e = (refl, e)
both_none (x ∷ xs) ys e = let none : ⊥ = cc in elim none [ ]

-- one item more
pub gathered_more :
    {X A : Type 0} (f : X → List A) (xs : List X) (i : ℕ) (x : X)
    → i < length xs
    → get_or xs i x ≡ x
    → flat_map f (take (i + 1) xs) ≡ flat_map f (take i xs) ++ f x
gathered_more f xs i x below is =
    ap (flat_map f) ((take_at_read xs i x below).1 ∙ ap (λ y. take i xs ++ y ∷ []) is)
    ∙ flat_map-append f (take i xs) (x ∷ [])
    ∙ ap (λ ys. flat_map f (take i xs) ++ ys) (append-nil (f x))

pub nothing_more :
    {X A : Type 0} (f : X → List A) (xs : List X) (i : ℕ) (x : X)
    → i < length xs
    → get_or xs i x ≡ x
    → flat_map f (take i xs) ≡ []
    → f x ≡ []
    → flat_map f (take (i + 1) xs) ≡ []
nothing_more f xs i x below is before here = gathered_more f xs i x below is ∙ ap (λ ys. ys ++ f x) before ∙ here

begins : {A : Type 0} (xs ys : List A) (r : A) → first_of xs ≡ Some r → first_of (xs ++ ys) ≡ Some r
begins [] ys r e = let none : ⊥ = cc in elim none [ ]
begins (x ∷ xs) ys r e = e

pub first_found :
    {X A : Type 0} (f : X → List A) (xs : List X) (i : ℕ) (x : X) (r : A)
    → i < length xs
    → get_or xs i x ≡ x
    → flat_map f (take i xs) ≡ []
    → first_of (f x) ≡ Some r
    → first_of (flat_map f xs) ≡ Some r
first_found f [] i x r below is before here = let none : ⊥ = omega arith in elim none [ ]
first_found f (y ∷ xs) zero x r below is before here = begins (f y) (flat_map f xs) r (ap (λ z. first_of (f z)) is ∙ here)
first_found f (y ∷ xs) (suc i) x r below is before here =
    let parts = both_none (f y) (flat_map f (take i xs)) before in
    ap (λ ys. first_of (ys ++ flat_map f xs)) parts.0 ∙ first_found f xs i x r (omega arith) is parts.1 here

pub none_first : {A : Type 0} (xs : List A) → first_of xs ≡ None → xs ≡ []
none_first [] e = refl
none_first (x ∷ xs) e = let none : ⊥ = cc in elim none [ ]

-- ---- by place

pub read_at_place : (ts : List Transaction) (place : ℕ) → IsPlace ts place → get_or ts place (txn_at ts place) ≡ txn_at ts place
read_at_place ts place below =
    same (slice_get ts place) refl
  where
    same : (o : Option Transaction) → slice_get ts place ≡ o → get_or ts place (txn_at ts place) ≡ txn_at ts place
    same (Some t) e =
        sym (unwrap_or-slice_get ts place (txn_at ts place)) ∙ ap (λ o. unwrap_or o (txn_at ts place)) e ∙ sym (ap (λ o. unwrap_or o (record { process = 0; invocation = 0; completion = None; status = Open; mops = [] })) e)
    same None e = let none : ⊥ = cc (e, slice_get-get_or ts place (txn_at ts place) below) in elim none [ ]

pub among_at_place : (ts : List Transaction) (place : ℕ) → IsPlace ts place → In (txn_at ts place) ts
among_at_place ts place below =
    in_at ts place (txn_at ts place) (slice_get-get_or ts place (txn_at ts place) below ∙ ap Some (read_at_place ts place below))
