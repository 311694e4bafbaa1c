-- Totals over lists that grow.
use Rattle.std.proofs.Common.{◌≡◌, inl, inr, ℕ, zero, suc, ◌+◌, List, [], ◌∷◌, ◌++◌, length, length-append, set, flat_map, Bool, true, false, ◌||◌, if◌then◌else◌, cond, Option, Some, None, IfSome, refl, sym, ◌∙◌, ap, subst, arith}
use Rattle.std.specs.Prelude.{slice_get, count_by}
use Rattle.std.specs.List.{list_any}
use Rattle.std.specs.Option.{SomeIff}
use Rattle.std.proofs.lemmas.List.Sums.{sum_by-cons}
use Rattle.std.proofs.lemmas.Option.{none-some, same_Some}
use Rattle.hist_types.proofs.Members.{In}

abbrev pub total : {X : Type 0} → (X → ℕ) → List X → ℕ
total f [] = 0
total f (x ∷ xs) = f x + total f xs

pub total_same : {X : Type 0} (f g : X → ℕ) (xs : List X) → ((x : X) → In x xs → f x ≡ g x) → total f xs ≡ total g xs
total_same f g [] same = refl
total_same f g (x ∷ xs) same =
    let first = same x (inl refl) in
    let rest = total_same f g xs (λ y i. same y (inr i)) in
    omega (arith, first, rest)

pub total_more : {X : Type 0} (f : X → ℕ) (xs : List X) (x : X) → total f (xs ++ x ∷ []) ≡ total f xs + f x
total_more f [] x = omega arith
total_more f (y ∷ xs) x = let rest = total_more f xs x in omega (arith, rest)

pub total_set :
    {X : Type 0} (f : X → ℕ) (xs : List X) (k : ℕ) (x was : X)
    → slice_get xs k ≡ Some was
    → f was ≡ 0
    → total f (set xs k x) ≡ total f xs + f x
total_set f [] k x was at none = elim (none-some was at) [ ]
total_set f (y ∷ xs) zero x was at none =
    let here = ap f (same_Some y was at) ∙ none in
    omega (arith, here)
total_set f (y ∷ xs) (suc k) x was at none = let rest = total_set f xs k x was at none in omega (arith, rest)

pub total_each : {X Y : Type 0} (f : X → List Y) (xs : List X) → length (flat_map f xs) ≡ total (λ x. length (f x)) xs
total_each f [] = refl
total_each f (x ∷ xs) = length-append (f x) (flat_map f xs) ∙ ap (λ n. length (f x) + n) (total_each f xs)

pub each_same : {X Y : Type 0} (f g : X → List Y) (xs : List X) → ((x : X) → In x xs → f x ≡ g x) → flat_map f xs ≡ flat_map g xs
each_same f g [] same = refl
each_same f g (x ∷ xs) same = ap (λ ys. ys ++ flat_map f xs) (same x (inl refl)) ∙ ap (λ ys. g x ++ ys) (each_same f g xs (λ y i. same y (inr i)))

-- ---- one more, if a test holds

abbrev pub one_if : {X : Type 0} → Bool → X → List X
one_if b x = if b then x ∷ [] else []

pub count_more :
    {X Y : Type 0} (p : Y → Bool) (b : Bool) (x : X) (xs : List X) (y : Y) (ys : List Y)
    → b ≡ p y
    → length xs ≡ count_by p ys
    → length (one_if b x ++ xs) ≡ count_by p (y ∷ ys)
count_more p b x xs y ys same rest =
    by b ∙ ap (λ c. cond c 1 0 + count_by p ys) same ∙ sym (sum_by-cons (λ z. cond (p z) 1 0) y ys)
  where
    by : (c : Bool) → length (one_if c x ++ xs) ≡ cond c 1 0 + count_by p ys
    by true = omega (arith, rest)
    by false = omega (arith, rest)

-- ---- a sum, if it fits

pub if_some : {X : Type 0} (o : Option X) (P : Type 0) (x : X) (Q : X → Type 0) → SomeIff o P x → Q x → IfSome o Q
if_some None P x Q none holds = tt
if_some (Some y) P x Q (fits, is) holds = subst Q (sym is) holds

-- ---- whether some pass

pub any_more : {X : Type 0} (p : X → Bool) (xs : List X) (x : X) → p x ≡ false → list_any p (xs ++ x ∷ []) ≡ list_any p xs
any_more p [] x fails = ap (λ b. b || false) fails
any_more p (y ∷ xs) x fails = ap (λ b. p y || b) (any_more p xs x fails)

pub any_set :
    {X : Type 0} (p : X → Bool) (xs : List X) (k : ℕ) (x was : X)
    → slice_get xs k ≡ Some was
    → p x ≡ p was
    → list_any p (set xs k x) ≡ list_any p xs
any_set p [] k x was at same = elim (none-some was at) [ ]
any_set p (y ∷ xs) zero x was at same = ap (λ b. b || list_any p xs) (same ∙ ap p (sym (same_Some y was at)))
any_set p (y ∷ xs) (suc k) x was at same = ap (λ b. p y || b) (any_set p xs k x was at same)
