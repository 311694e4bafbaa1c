-- An index of pairs, and one pair more.
use Rattle.std.proofs.Common.{◌≡◌, inl, inr, ℕ, List, [], ◌∷◌, ◌++◌, length, Bool, cond, Option, Some, None, sym, ◌∙◌, ap}
use Rattle.std.proofs.Math.ListN.{set}
use Rattle.std.proofs.lemmas.Bool.{cases_Bool}
use Rattle.indexmap.specs.IndexMap.{IndexMap, get}
use Rattle.atom_index.specs.Numbers.{number_in, pair_eq}
use Rattle.atom_index.specs.Slots.{slot_of_pair}
use Rattle.atom_index.specs.Lookups.{AreNumbersOf, IsPairIndexed}
use Rattle.atom_index.proofs.Pushed.{number_first, number_last, pair_eq-itself}
use Rattle.atom_index.proofs.Tables.{same_pair, pair_slots}
use Rattle.atom_index.proofs.Indexed.{indexed_small, indexed_other}

module _ {S : Type 0} (pairs : List (ℕ × Option ℕ)) (width : ℕ) (table : List (Option ℕ)) (others : IndexMap (ℕ × Option ℕ) ℕ S) (pair : ℕ × Option ℕ)
    (old : IsPairIndexed pairs width table others) (new : number_in pair_eq pair pairs ≡ None) where
  longer : AreNumbersOf others (pairs ++ pair ∷ [])
  longer p n e = number_first pair_eq p pairs pair n (old.numbers p n e)

  -- a pair that has a slot goes into the table
  pub pair_small :
      (slot : ℕ) → slot_of_pair width pair (length table) ≡ Some slot
      → IsPairIndexed (pairs ++ pair ∷ []) width (set table slot (Some (length pairs))) others
  pair_small slot at = record {
    wide = old.wide;
    indexed = indexed_small (pair_slots width old.wide) pairs table others pair slot old.indexed new at;
    numbers = longer;
  }

  -- every other pair goes into the map
  pub pair_other :
      (after : IndexMap (ℕ × Option ℕ) ℕ S) → slot_of_pair width pair (length table) ≡ None
      → ((p : ℕ × Option ℕ) → get pair_eq after p ≡ cond (pair_eq pair p) (Some (length pairs)) (get pair_eq others p))
      → IsPairIndexed (pairs ++ pair ∷ []) width table after
  pair_other after outside updated = record {
    wide = old.wide;
    indexed = indexed_other (pair_slots width old.wide) pairs table others after pair old.indexed new outside updated;
    numbers = λ p n e. elim (cases_Bool (pair_eq pair p)) [
      | inl same ↦ (
          let last : number_in pair_eq pair (pairs ++ pair ∷ []) ≡ Some (length pairs) = number_last pair_eq pair pairs pair new (pair_eq-itself pair) in
          ap (λ (x : ℕ × Option ℕ). number_in pair_eq x (pairs ++ pair ∷ [])) (sym (same_pair pair p same)) ∙ last
          ∙ sym (updated p ∙ ap (λ (b : Bool). cond b (Some (length pairs)) (get pair_eq others p)) same) ∙ e)
      | inr differ ↦ longer p n (sym (updated p ∙ ap (λ (b : Bool). cond b (Some (length pairs)) (get pair_eq others p)) differ) ∙ e)
    ];
  }
