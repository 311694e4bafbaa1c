-- Numbers in the order of first insertion.
use Rattle.std.specs.Prelude.{◌≡◌, ℕ, List, [], ◌∷◌, ◌++◌, Bool, ◌&&◌, ◌==◌, Option, Some, position, slice_get, nat_eq, if◌then◌else◌, is_some, refl}
use Rattle.std.specs.Coded.{Coded, code_by, coded×, coded_ℕ, coded_list, coded_option}
use Rattle.std.specs.Option.{option_eq}
use Rattle.hist_types.specs.Atoms.{Atom}
use Rattle.hist_types.specs.Stored.{coded_atom}

-- What has a number, in the order of its numbers, and how many more can be inserted without more
-- memory.
pub record Index (A : Type 0) : Type 0 where
  pub items : List A
  pub spare : ℕ

abbrev pub atom_index_code : Coded (Index Atom)
atom_index_code =
    code_by (List Atom × ℕ) (coded× (coded_list coded_atom) coded_ℕ)
    (λ x. (x.items, x.spare)) (λ p. record { items = p.0; spare = p.1 }) (λ _. refl)

abbrev pub pair_index_code : Coded (Index (ℕ × Option ℕ))
pair_index_code =
    code_by (List (ℕ × Option ℕ) × ℕ)
    (coded× (coded_list (coded× coded_ℕ (coded_option coded_ℕ))) coded_ℕ)
    (λ x. (x.items, x.spare)) (λ p. record { items = p.0; spare = p.1 }) (λ _. refl)

-- the number of what is in a list
abbrev pub number_in : {A : Type 0} → (A → A → Bool) → A → List A → Option ℕ
number_in eq x items = position (eq x) items

-- the items once this one is among them
abbrev pub with_item : {A : Type 0} → (A → A → Bool) → List A → A → List A
with_item eq items x = if is_some (number_in eq x items) then items else items ++ x ∷ []

-- a key and a value or nil
abbrev pub pair_eq : ℕ × Option ℕ → ℕ × Option ℕ → Bool
pair_eq p q = (p.0 == q.0) && option_eq nat_eq p.1 q.1

-- Each item's number is its place: no two items are equal.
abbrev pub AreNumbered : {A : Type 0} → (A → A → Bool) → List A → Type 0
AreNumbered {A} eq items =
    (i : ℕ) (x : A) → slice_get items i ≡ Some x → number_in eq x items ≡ Some i
