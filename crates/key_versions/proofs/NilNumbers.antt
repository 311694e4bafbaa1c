-- The nil versions of keys among numbered versions.
use Rattle.std.proofs.Common.{◌≡◌, ◌⊎◌, inl, inr, ◌<◌, ◌≤◌, ◌+◌, ℕ, List, [], ◌∷◌, ◌++◌, length, Bool, true, false, Option, Some, None, refl, sym, ◌∙◌, ap, subst, arith}
use Rattle.std.specs.Prelude.{slice_get, ◌==◌, ◌&&◌}
use Rattle.std.proofs.lemmas.Bool.{cases_Bool, eqb-true, eqb-false}
use Rattle.std.proofs.lemmas.List.{length_push}
use Rattle.atom_index.specs.Numbers.{number_in, with_item, pair_eq}
use Rattle.atom_index.proofs.Pushed.{number_first, number_last, number_kept, item_pushed, pair_eq-itself}
use Rattle.key_versions.specs.Nils.{AreNilsIn, IsWithNil, AreWithNils, KeepPlaces}
use Rattle.key_versions.proofs.Places.{same_item, cases_number, with_item-there, with_item-new, slice_get-with_item}

abbrev pair_by : ℕ → Option ℕ → ℕ × Option ℕ
pair_by key value = (key, value)

and_false : (b : Bool) → (b && false) ≡ false
and_false true = refl
and_false false = refl

-- a pair that is not this nil version doesn't change its number
other_number :
    (pairs : List (ℕ × Option ℕ)) (p q : ℕ × Option ℕ) → pair_eq p q ≡ false → number_in pair_eq p (with_item pair_eq pairs q) ≡ number_in pair_eq p pairs
other_number pairs p q differ = elim (cases_number pair_eq q pairs) [
  | inl there ↦ ap (number_in pair_eq p) (with_item-there pair_eq pairs q there.0 there.1)
  | inr new ↦ ap (number_in pair_eq p) (with_item-new pair_eq pairs q new) ∙ number_kept pair_eq p pairs q differ
]

-- a value changes no nil version
pub nils_kept :
    (pairs : List (ℕ × Option ℕ)) (nils : List (Option ℕ)) (key value : ℕ) → AreNilsIn pairs nils → AreNilsIn (with_item pair_eq pairs (key, Some value)) nils
nils_kept pairs nils key value old k below = old k below ∙ sym (other_number pairs (pair_by k None) (pair_by key (Some value)) (and_false (k == key)))

-- ---- nil versions of given pairs

-- These pairs have the numbers of their places, as far as was looked.
abbrev AreFirst : (ℕ → Type 0) → List (ℕ × Option ℕ) → Type 0
AreFirst seen pairs = (j : ℕ) (p : ℕ × Option ℕ) → seen j → slice_get pairs j ≡ Some p → number_in pair_eq p pairs ≡ Some j

first_grown : (seen : ℕ → Type 0) (pairs : List (ℕ × Option ℕ)) (x : ℕ × Option ℕ) → AreFirst seen pairs → AreFirst seen (with_item pair_eq pairs x)
first_grown seen pairs x old j p looked at = elim (cases_number pair_eq x pairs) [
  | inl there ↦ (
      let same = with_item-there pair_eq pairs x there.0 there.1 in
      ap (number_in pair_eq p) same ∙ old j p looked (sym (ap (λ (ps : List (ℕ × Option ℕ)). slice_get ps j) same) ∙ at))
  | inr new ↦ (
      let longer = with_item-new pair_eq pairs x new in
      elim (item_pushed pairs x j p (sym (ap (λ (ps : List (ℕ × Option ℕ)). slice_get ps j) longer) ∙ at)) [
        | inl among ↦ ap (number_in pair_eq p) longer ∙ number_first pair_eq p pairs x j (old j p looked among)
        | inr last ↦
            ap (number_in pair_eq p) longer ∙ ap (λ (q : ℕ × Option ℕ). number_in pair_eq q (pairs ++ x ∷ [])) last.1
            ∙ number_last pair_eq x pairs x new (pair_eq-itself x) ∙ ap Some (sym last.0)
      ])
]

each_grown : (given pairs : List (ℕ × Option ℕ)) (x : ℕ × Option ℕ) → AreWithNils given pairs → IsWithNil given x → AreWithNils given (with_item pair_eq pairs x)
each_grown given pairs x old is j p at = elim (cases_number pair_eq x pairs) [
  | inl there ↦ old j p (sym (ap (λ (ps : List (ℕ × Option ℕ)). slice_get ps j) (with_item-there pair_eq pairs x there.0 there.1)) ∙ at)
  | inr new ↦ elim (item_pushed pairs x j p (sym (ap (λ (ps : List (ℕ × Option ℕ)). slice_get ps j) (with_item-new pair_eq pairs x new)) ∙ at)) [
    | inl among ↦ old j p among
    | inr last ↦ subst (IsWithNil given) (sym last.1) is
  ]
]

longer_by : (pairs : List (ℕ × Option ℕ)) (x : ℕ × Option ℕ) → length pairs ≤ length (with_item pair_eq pairs x)
longer_by pairs x = elim (cases_number pair_eq x pairs) [
  | inl there ↦ subst (λ (ps : List (ℕ × Option ℕ)). length pairs ≤ length ps) (sym (with_item-there pair_eq pairs x there.0 there.1)) (omega arith)
  | inr new ↦ subst (λ (ps : List (ℕ × Option ℕ)). length pairs ≤ length ps) (sym (with_item-new pair_eq pairs x new)) (omega (arith, length_push pairs x))
]

-- the given pairs with the nil versions of some of their keys, where this many of them were looked at
pub record AreLooked (given : List (ℕ × Option ℕ)) (count : ℕ) (pairs : List (ℕ × Option ℕ)) : Type 0 where
  pub first : AreFirst (λ j. (j < count) ⊎ (length given ≤ j)) pairs
  pub more : length given ≤ length pairs
  pub each : AreWithNils given pairs
  pub places : KeepPlaces given pairs

pub one_looked :
    (given : List (ℕ × Option ℕ)) (count : ℕ) (pairs : List (ℕ × Option ℕ)) (p : ℕ × Option ℕ) → AreLooked given count pairs
    → slice_get pairs count ≡ Some p → number_in pair_eq p pairs ≡ Some count → AreLooked given (count + 1) (with_item pair_eq pairs (p.0, None))
one_looked given count pairs p old at numbered =
    let nil = pair_by p.0 None in
    let here : AreFirst (λ j. (j < count + 1) ⊎ (length given ≤ j)) pairs = λ j q looked there. elim (cases_Bool (j == count)) [
      | inl is ↦ (
          let same : j ≡ count = eqb-true j count is in
          let pair : p ≡ q = same_item p q (sym at ∙ ap (slice_get pairs) (sym same) ∙ there) in
          ap (λ (r : ℕ × Option ℕ). number_in pair_eq r pairs) (sym pair) ∙ numbered ∙ ap Some (sym same))
      | inr differ ↦ old.first j q (elim looked [
        | inl before ↦ inl (omega (arith, eqb-false j count differ))
        | inr behind ↦ inr behind
      ]) there
    ] in
    let is : IsWithNil given nil = (
    let (i, q, found, of) = old.each count p at in (
      i,
      q,
      found,
      inr (elim of [
        | inl e ↦ ap (λ (r : ℕ × Option ℕ). pair_by r.0 None) e
        | inr e ↦ ap (λ (r : ℕ × Option ℕ). pair_by r.0 None) e
      ]),
    )) in
    let longer = longer_by pairs nil in
    let before = old.more in
    record {
      first = first_grown (λ j. (j < count + 1) ⊎ (length given ≤ j)) pairs nil here;
      more = omega arith;
      each = each_grown given pairs nil old.each is;
      places = λ i q found. slice_get-with_item pair_eq pairs nil q i (old.places i q found);
    }
