-- The numbers in a list that has one item more.
use Rattle.std.proofs.Common.{◌≡◌, ◌⊎◌, inl, inr, ℕ, zero, suc, ◌+◌, List, [], ◌∷◌, ◌++◌, length, Bool, true, false, cond, Option, Some, None, refl, sym, ◌∙◌, ap, subst, arith}
use Rattle.std.specs.Prelude.{slice_get, ◌==◌, nat_eq}
use Rattle.std.specs.Option.{option_or, option_eq, is_some}
use Rattle.std.specs.List.{position_from, list_any}
use Rattle.std.proofs.lemmas.Bool.{cases_Bool, and_from, eq-eqb}
use Rattle.std.proofs.lemmas.Iterator.Adapters.{position_from-zero}
use Rattle.indexmap.specs.IndexSet.{insert_key}
use Rattle.atom_index.specs.Numbers.{number_in, with_item, AreNumbered, pair_eq}

abbrev pub at_end : Bool → ℕ → Option ℕ
at_end is_it place = cond is_it (Some place) None

from_push :
    {A : Type 0} (test : A → Bool) (i : ℕ) (xs : List A) (y : A)
    → position_from test i (xs ++ y ∷ []) ≡ option_or (position_from test i xs) (at_end (test y) (i + length xs))
from_push test i [] y = ap (at_end (test y)) (omega arith)
from_push test i (x ∷ xs) y = elim (cases_Bool (test x)) [
  | inl is ↦ rw is refl
  | inr is_not ↦ (
      let later = from_push test (i + 1) xs y in
      let place : i + 1 + length xs ≡ i + length (x ∷ xs) = omega arith in
      rw is_not (later ∙ ap (λ (n : ℕ). option_or (position_from test (i + 1) xs) (at_end (test y) n)) place))
]

option_or-none : (o : Option ℕ) → option_or o None ≡ o
option_or-none None = refl
option_or-none (Some x) = refl

pub number_in-push :
    {A : Type 0} (eq : A → A → Bool) (x : A) (items : List A) (y : A)
    → number_in eq x (items ++ y ∷ []) ≡ option_or (number_in eq x items) (at_end (eq x y) (length items))
number_in-push eq x items y =
    position_from-zero (eq x) (items ++ y ∷ [])
    ∙ from_push (eq x) 0 items y
    ∙ ap (λ (n : ℕ). option_or (position_from (eq x) 0 items) (at_end (eq x y) n)) (omega arith)
    ∙ ap (λ (o : Option ℕ). option_or o (at_end (eq x y) (length items))) (sym (position_from-zero (eq x) items))

-- what has a number keeps it
pub number_first :
    {A : Type 0} (eq : A → A → Bool) (x : A) (items : List A) (y : A) (n : ℕ)
    → number_in eq x items ≡ Some n → number_in eq x (items ++ y ∷ []) ≡ Some n
number_first eq x items y n e = number_in-push eq x items y ∙ ap (λ (o : Option ℕ). option_or o (at_end (eq x y) (length items))) e

-- what is new and equal to the last gets its place
pub number_last :
    {A : Type 0} (eq : A → A → Bool) (x : A) (items : List A) (y : A)
    → number_in eq x items ≡ None → eq x y ≡ true → number_in eq x (items ++ y ∷ []) ≡ Some (length items)
number_last eq x items y none is =
    number_in-push eq x items y
    ∙ ap (λ (o : Option ℕ). option_or o (at_end (eq x y) (length items))) none
    ∙ ap (λ (b : Bool). at_end b (length items)) is

-- what is not equal to the last has the number that it had
pub number_kept :
    {A : Type 0} (eq : A → A → Bool) (x : A) (items : List A) (y : A)
    → eq x y ≡ false → number_in eq x (items ++ y ∷ []) ≡ number_in eq x items
number_kept eq x items y differ =
    number_in-push eq x items y
    ∙ ap (λ (is_it : Bool). option_or (number_in eq x items) (at_end is_it (length items))) differ
    ∙ option_or-none (number_in eq x items)

pub no_item : {A : Type 0} (x : A) → None ≡ Some x → ⊥
no_item x e = cc

same_item : {A : Type 0} (x y : A) → Some x ≡ Some y → x ≡ y
same_item x y e = cc

-- an item of the longer list was there, or is the last
pub item_pushed : {A : Type 0} (xs : List A) (y : A) (i : ℕ) (x : A) → slice_get (xs ++ y ∷ []) i ≡ Some x → (slice_get xs i ≡ Some x) ⊎ ((i ≡ length xs) × (x ≡ y))
item_pushed [] y zero x h = inr (refl, sym (same_item y x h))
item_pushed [] y (suc i) x h = absurd (no_item x h)
item_pushed (z ∷ xs) y zero x h = inl h
item_pushed (z ∷ xs) y (suc i) x h = elim (item_pushed xs y i x h) [
  | inl there ↦ inl there
  | inr last ↦ inr (ap suc last.0, last.1)
]

pub numbered_push :
    {A : Type 0} (eq : A → A → Bool) (items : List A) (x : A)
    → eq x x ≡ true → AreNumbered eq items → number_in eq x items ≡ None → AreNumbered eq (items ++ x ∷ [])
numbered_push eq items x itself numbered new i y h = elim (item_pushed items x i y h) [
  | inl there ↦ number_first eq y items x i (numbered i y there)
  | inr last ↦ (
      let is = number_last eq x items x new itself in
      subst (λ z. number_in eq z (items ++ x ∷ []) ≡ Some i) (sym last.1) (is ∙ ap Some (sym last.0)))
]

-- ---- an item that may be there

is_there : {A : Type 0} (test : A → Bool) (i : ℕ) (xs : List A) → is_some (position_from test i xs) ≡ list_any test xs
is_there test i [] = refl
is_there test i (x ∷ xs) = elim (cases_Bool (test x)) [
  | inl is ↦ rw is refl
  | inr is_not ↦ rw is_not (is_there test (i + 1) xs)
]

pub has_number : {A : Type 0} (eq : A → A → Bool) (x : A) (items : List A) → is_some (number_in eq x items) ≡ list_any (eq x) items
has_number eq x items = ap is_some (position_from-zero (eq x) items) ∙ is_there (eq x) 0 items

-- what an insertion leaves
pub inserted_items : {A : Type 0} (eq : A → A → Bool) (items : List A) (x : A) → insert_key eq items x ≡ with_item eq items x
inserted_items eq items x = ap (λ (is : Bool). cond is items (items ++ x ∷ [])) (sym (has_number eq x items))

pub inserted_numbered : {A : Type 0} (eq : A → A → Bool) (items : List A) (x : A) → eq x x ≡ true → AreNumbered eq items → AreNumbered eq (with_item eq items x)
inserted_numbered {A} eq items x itself numbered = by (number_in eq x items) refl
  where
    by : (o : Option ℕ) → number_in eq x items ≡ o → AreNumbered eq (with_item eq items x)
    by None e = subst (λ (o : Option ℕ). AreNumbered eq (cond (is_some o) items (items ++ x ∷ []))) (sym e) (numbered_push eq items x itself numbered e)
    by (Some n) e = subst (λ (o : Option ℕ). AreNumbered eq (cond (is_some o) items (items ++ x ∷ []))) (sym e) numbered

value_itself : (value : Option ℕ) → option_eq nat_eq value value ≡ true
value_itself None = refl
value_itself (Some n) = eq-eqb n n refl

pub pair_eq-itself : (p : ℕ × Option ℕ) → pair_eq p p ≡ true
pair_eq-itself p = and_from (p.0 == p.0) (option_eq nat_eq p.1 p.1) (eq-eqb p.0 p.0 refl) (value_itself p.1)
