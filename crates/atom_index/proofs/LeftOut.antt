-- Pairs that lose their slots go into the map.
use Rattle.std.proofs.Common.{◌≡◌, ◌⊎◌, inl, inr, ℕ, ◌+◌, ◌<◌, List, [], ◌∷◌, ◌++◌, length, take, get_or, Bool, true, false, cond, Option, Some, None, refl, sym, ◌∙◌, ap, subst}
use Rattle.std.specs.Option.{is_some}
use Rattle.std.proofs.lemmas.Bool.{cases_Bool, true≢false}
use Rattle.std.proofs.lemmas.List.{take_more}
use Rattle.indexmap.specs.IndexMap.{IndexMap, get}
use Rattle.atom_index.specs.Numbers.{number_in, pair_eq}
use Rattle.atom_index.specs.Slots.{slot_of_pair}
use Rattle.atom_index.specs.Lookups.{AreNumbersOf, HoldsOthers}
use Rattle.atom_index.proofs.Pushed.{no_item, number_kept, pair_eq-itself}
use Rattle.atom_index.proofs.Tables.{same_pair}

-- what has a slot is not without one
pub no_place : (o : Option ℕ) → is_some o ≡ true → o ≡ None → ⊥
no_place None is e = true≢false (sym is)
no_place (Some slot) is e = no_item slot (sym e)

pub without_place : (o : Option ℕ) → is_some o ≡ false → o ≡ None
without_place None is = refl
without_place (Some slot) is = absurd (true≢false is)

-- the first pairs, up to one more
pub one_more :
    (pairs : List (ℕ × Option ℕ)) (p q : ℕ × Option ℕ) (i : ℕ) → i < length pairs → q ≡ get_or pairs i q
    → pair_eq p q ≡ false → number_in pair_eq p (take i pairs) ≡ None → number_in pair_eq p (take (i + 1) pairs) ≡ None
one_more pairs p q i h is differ none =
    ap (number_in pair_eq p) (take_more pairs i q h)
    ∙ ap (λ (x : ℕ × Option ℕ). number_in pair_eq p (take i pairs ++ x ∷ [])) (sym is)
    ∙ number_kept pair_eq p (take i pairs) q differ
    ∙ none

module _ {S : Type 0} (pairs : List (ℕ × Option ℕ)) where
  -- of the first i pairs the map has those that have no slot
  abbrev pub HaveMoved : ℕ → ℕ → IndexMap (ℕ × Option ℕ) ℕ S → ℕ → Type 0
  HaveMoved width slots others i = (p : ℕ × Option ℕ) → slot_of_pair width p slots ≡ None
      → (number_in pair_eq p (take i pairs) ≡ None) ⊎ (get pair_eq others p ≡ number_in pair_eq p pairs)

  -- a pair that has a slot, or that the map knew before, stays where it is
  pub moved_past :
      (width slots : ℕ) (others : IndexMap (ℕ × Option ℕ) ℕ S) (i : ℕ) (q : ℕ × Option ℕ)
      → i < length pairs → q ≡ get_or pairs i q
      → (slot_of_pair width q slots ≡ None → get pair_eq others q ≡ number_in pair_eq q pairs)
      → HaveMoved width slots others i → HaveMoved width slots others (i + 1)
  moved_past width slots others i q h is right moved p none = elim (cases_Bool (pair_eq p q)) [
    | inl same ↦ (
        let p_is = same_pair p q same in
        inr (subst (λ (x : ℕ × Option ℕ). get pair_eq others x ≡ number_in pair_eq x pairs) (sym p_is)
        (right (ap (λ (x : ℕ × Option ℕ). slot_of_pair width x slots) (sym p_is) ∙ none))))
    | inr differ ↦ elim (moved p none) [
      | inl new ↦ inl (one_more pairs p q i h is differ new)
      | inr had ↦ inr had
    ]
  ]

  -- ---- a pair that gets its number in the map

  module _ (others after : IndexMap (ℕ × Option ℕ) ℕ S) (q : ℕ × Option ℕ) (n : ℕ)
      (number : number_in pair_eq q pairs ≡ Some n)
      (updated : (p : ℕ × Option ℕ) → get pair_eq after p ≡ cond (pair_eq q p) (Some n) (get pair_eq others p)) where
    is_right : (p : ℕ × Option ℕ) → pair_eq q p ≡ true → get pair_eq after p ≡ number_in pair_eq p pairs
    is_right p same =
        updated p ∙ ap (λ (b : Bool). cond b (Some n) (get pair_eq others p)) same ∙ sym number
        ∙ ap (λ (x : ℕ × Option ℕ). number_in pair_eq x pairs) (same_pair q p same)

    is_kept : (p : ℕ × Option ℕ) → pair_eq q p ≡ false → get pair_eq after p ≡ get pair_eq others p
    is_kept p differ = updated p ∙ ap (λ (b : Bool). cond b (Some n) (get pair_eq others p)) differ

    pub right_stays : (p : ℕ × Option ℕ) → get pair_eq others p ≡ number_in pair_eq p pairs → get pair_eq after p ≡ number_in pair_eq p pairs
    right_stays p right = elim (cases_Bool (pair_eq q p)) [
      | inl same ↦ is_right p same
      | inr differ ↦ is_kept p differ ∙ right
    ]

    pub numbers_stay : AreNumbersOf others pairs → AreNumbersOf after pairs
    numbers_stay numbers p m e = elim (cases_Bool (pair_eq q p)) [
      | inl same ↦ sym (is_right p same) ∙ e
      | inr differ ↦ numbers p m (sym (is_kept p differ) ∙ e)
    ]

    pub others_stay : (width slots : ℕ) → HoldsOthers width slots others pairs → HoldsOthers width slots after pairs
    others_stay width slots holds p none = right_stays p (holds p none)

    pub moved_on :
        (width slots i : ℕ) → i < length pairs → q ≡ get_or pairs i q
        → HaveMoved width slots others i → HaveMoved width slots after (i + 1)
    moved_on width slots i h is moved =
        moved_past width slots after i q h is (λ none. is_right q (pair_eq-itself q))
        (λ p none. elim (moved p none) [
          | inl new ↦ inl new
          | inr had ↦ inr (right_stays p had)
        ])
