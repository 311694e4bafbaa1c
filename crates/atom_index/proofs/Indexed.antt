-- An index, and one item more.
use Rattle.std.proofs.Common.{◌≡◌, inl, inr, ℕ, List, [], ◌∷◌, ◌++◌, length, get_or, Bool, true, false, cond, Option, Some, None, sym, ◌∙◌, ap}
use Rattle.std.proofs.Math.ListN.{set}
use Rattle.std.proofs.lemmas.Bool.{cases_Bool, true≢false, false_from_ne_true}
use Rattle.std.proofs.lemmas.List.{length-set}
use Rattle.indexmap.specs.IndexMap.{IndexMap, get}
use Rattle.atom_index.specs.Numbers.{number_in}
use Rattle.atom_index.specs.Lookups.{IsIndexedBy}
use Rattle.atom_index.proofs.Pushed.{no_item, numbered_push, number_last, number_kept}
use Rattle.atom_index.proofs.Tables.{AreSlots, table_without, table_set}

module _ {A : Type 0} {eq : A → A → Bool} {place_of : A → ℕ → Option ℕ} {item_at : ℕ → A} (slots : AreSlots eq place_of item_at) where
  differs : (a b : A) → eq a b ≡ false → eq b a ≡ false
  differs a b h = false_from_ne_true _ (λ same. true≢false (sym (ap (eq a) (slots.same b a same) ∙ slots.itself a) ∙ h))

  -- the table tells the number of an item that has a slot
  pub number_at :
      {S : Type 0} (items : List A) (table : List (Option ℕ)) (others : IndexMap A ℕ S) (item : A) (slot : ℕ)
      → IsIndexedBy eq place_of item_at items table others → place_of item (length table) ≡ Some slot
      → get_or table slot None ≡ number_in eq item items
  number_at items table others item slot index at =
      let small = slots.told item (length table) slot at in
      index.small slot small.within ∙ ap (λ (a : A). number_in eq a items) (sym small.is)

  -- an item that has a slot goes into the table
  pub indexed_small :
      {S : Type 0} (items : List A) (table : List (Option ℕ)) (others : IndexMap A ℕ S) (item : A) (slot : ℕ)
      → IsIndexedBy eq place_of item_at items table others → number_in eq item items ≡ None → place_of item (length table) ≡ Some slot
      → IsIndexedBy eq place_of item_at (items ++ item ∷ []) (set table slot (Some (length items))) others
  indexed_small items table others item slot old new at =
      let small = slots.told item (length table) slot at in
      let free : get_or table slot None ≡ None = old.small slot small.within ∙ ap (λ (a : A). number_in eq a items) (sym small.is) ∙ new in
      record {
        numbered = numbered_push eq items item (slots.itself item) old.numbered new;
        small = table_set slots table items item slot at free old.small;
        large = λ b none.
            let outside : place_of b (length table) ≡ None = ap (place_of b) (sym (length-set table slot (Some (length items)))) ∙ none in
            let other : eq b item ≡ false = false_from_ne_true _ (λ same. no_item slot (sym outside ∙ (ap (λ (a : A). place_of a (length table)) (slots.same b item same) ∙ at))) in
            old.large b outside ∙ sym (number_kept eq b items item other);
      }

  -- every other item goes into the map
  pub indexed_other :
      {S : Type 0} (items : List A) (table : List (Option ℕ)) (others after : IndexMap A ℕ S) (item : A)
      → IsIndexedBy eq place_of item_at items table others → number_in eq item items ≡ None → place_of item (length table) ≡ None
      → ((a : A) → get eq after a ≡ cond (eq item a) (Some (length items)) (get eq others a))
      → IsIndexedBy eq place_of item_at (items ++ item ∷ []) table after
  indexed_other items table others after item old new outside updated = record {
    numbered = numbered_push eq items item (slots.itself item) old.numbered new;
    small = table_without slots table items item outside old.small;
    large = λ b none. elim (cases_Bool (eq b item)) [
      | inl same ↦ (
          let here : eq item b ≡ true = ap (eq item) (slots.same b item same) ∙ slots.itself item in
          updated b ∙ ap (λ (t : Bool). cond t (Some (length items)) (get eq others b)) here ∙ sym (number_last eq b items item (ap (λ (a : A). number_in eq a items) (slots.same b item same) ∙ new) same))
      | inr differ ↦ (
          updated b ∙ ap (λ (t : Bool). cond t (Some (length items)) (get eq others b)) (differs b item differ)
          ∙ old.large b none ∙ sym (number_kept eq b items item differ))
    ];
  }
