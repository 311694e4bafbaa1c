-- Entries in the order of their keys: a search, and one entry more.
use Rattle.std.proofs.Common.{◌≡◌, inl, inr, ℕ, zero, suc, ◌+◌, ◌-◌, ◌<◌, ◌≤◌, List, [], ◌∷◌, length, get_or, Bool, true, false, cond, Some, None, Result, Ok, Err, IfOk, IfErr, refl, sym, ◌∙◌, ap, subst, arith}
use Rattle.std.specs.Prelude.{is_ok, OnOk}
use Rattle.std.specs.Cmp.{IsEquivalence, IsTotalOrder}
use Rattle.std.specs.List.{insert, All}
use Rattle.std.specs.List.Sorted.{IsSearchInRange, IsBinarySearchResult, IsNonDecreasingBy}
use Rattle.std.specs.Map.{lookup}
use Rattle.std.specs.Ordering.{is_eq, is_lt, ordering_index, ordering_reverse}
use Rattle.std.specs.declared.cmp.Ordering.{Ordering}
use Rattle.std.specs.declared.cmp.Ordering.TheVariants.{Less}
use Rattle.std.proofs.lemmas.Bool.{cases_lt, false_from_ne_true}
use Rattle.std.proofs.lemmas.List.Edits.{length-insert, get_or-insert_below, get_or-insert_at, get_or-insert_above}
use Rattle.std.proofs.lemmas.List.Sorted.{IsNonDecreasingBy-insert, searchable_from_sorted}
use Rattle.std.proofs.lemmas.Map.{lookup-insert, none_passes_from_lookup}
use Rattle.atom_index.specs.SortedEntries.{AreSorted, HasKeyAt, IsGapFor, IsWith}
use Rattle.atom_index.proofs.Lookups.{same_lookup}

-- what holds of an item and of all others holds of the list with the item in it
All-insert : {X : Type 0} (P : X → Type 0) (xs : List X) (i : ℕ) (y : X) → i ≤ length xs → All P xs → P y → All P (insert xs i y)
All-insert P xs i y h all one k d within =
    let len = length-insert xs i y h in
    elim (cases_lt k i) [
      | inl below ↦ subst P (sym (get_or-insert_below xs i y d k below h)) (all k d (omega (arith, below, h)))
      | inr above ↦ elim (cases_lt i k) [
        | inl beyond ↦ (
            let before : k - 1 + 1 ≡ k = omega (arith, beyond) in
            subst P (sym (ap (λ (n : ℕ). get_or (insert xs i y) n d) (sym before) ∙ get_or-insert_above xs i y d (k - 1) (omega (arith, beyond)) h)) (all (k - 1) d (omega (arith, beyond, within, len))))
        | inr here ↦ (
            let same : k ≡ i = omega (arith, above, here) in
            subst P (sym (ap (λ (n : ℕ). get_or (insert xs i y) n d) same ∙ get_or-insert_at xs i y d h)) one)
      ]
    ]

-- a smaller key is no greater than another one where the greater one isn't
index_le : {K : Type 0} {cmp : K → K → Ordering} → IsTotalOrder cmp → (x y k : K) → cmp x y ≡ Less → ordering_index (cmp x k) ≤ ordering_index (cmp y k)
index_le {K} {cmp} total x y k less = searchable_from_sorted total (λ (z : K). z) (x ∷ y ∷ []) k sorted 0 1 x (omega arith) (omega arith)
  where
    sorted : (i : ℕ) (d : K) → 0 ≤ i → i + 1 < 2 → is_lt (cmp (get_or (x ∷ y ∷ []) (i + 1) d) (get_or (x ∷ y ∷ []) i d)) ≡ false
    sorted zero d low high = ap is_lt (total.antisymm y x ∙ ap ordering_reverse less)
    sorted (suc i) d low high = absurd (omega (arith, high))

module _ {K : Type 0} {eq : K → K → Bool} {cmp : K → K → Ordering} (laws : IsEquivalence eq) (total : IsTotalOrder cmp) (ties : (x y : K) → eq x y ≡ is_eq (cmp x y)) where
  none_in :
      (entries : List (K × ℕ)) (key : K)
      → ((i : ℕ) (d : K × ℕ) → i < length entries → eq key (get_or entries i d).0 ≡ false)
      → lookup (eq key) entries ≡ None
  none_in [] key differ = refl
  none_in (e ∷ entries) key differ = rw (differ 0 e (omega arith)) (none_in entries key (λ i d h. differ (suc i) d (omega (arith, h))))

  -- a key for which there is a gap has no number
  pub none_at_gap :
      (entries : List (K × ℕ)) (key : K) (i : ℕ) → IsGapFor cmp entries key i → lookup (eq key) entries ≡ None
  none_at_gap entries key i gap = none_in entries key (λ j d h.
      let other = (get_or entries j d).0 in
      laws.symm key other ∙ ties other key ∙ elim (cases_lt j i) [
        | inl before ↦ ap is_eq (gap.parts.0 j d (omega arith) before)
        | inr after ↦ ap is_eq (gap.parts.1 j d after h)
      ])

  pub number_at :
      (entries : List (K × ℕ)) (key : K) (i : ℕ) (d : K × ℕ) → AreSorted eq cmp entries → HasKeyAt cmp entries key i
      → Some (get_or entries i d).1 ≡ lookup (eq key) entries
  number_at entries key i d sorted at =
      let entry = get_or entries i d in
      let same : eq entry.0 key ≡ true = ties entry.0 key ∙ ap is_eq (at.equal d) in
      sym (sorted.numbered i d at.within) ∙ same_lookup (eq entry.0) (eq key) (λ (x : K). laws.congr entry.0 key x same) entries

  -- a key that has a place has a number
  pub not_none : (entries : List (K × ℕ)) (key : K) (i : ℕ) → AreSorted eq cmp entries → HasKeyAt cmp entries key i → lookup (eq key) entries ≡ None → ⊥
  not_none [] key i sorted at none = omega (arith, at.within)
  not_none (e ∷ entries) key i sorted at none = cc (number_at (e ∷ entries) key i e sorted at ∙ none)

  -- an entry that goes into the gap for its key
  module _ (entries : List (K × ℕ)) (entry : K × ℕ) (i : ℕ) (sorted : AreSorted eq cmp entries) (gap : IsGapFor cmp entries entry.0 i) where
    pub with_entry : IsWith eq entries (insert entries i entry) entry.0 entry.1
    with_entry k =
        lookup-insert laws entry.0 entry.1 k entries i
        (none_passes_from_lookup (eq entry.0) entries (none_at_gap entries entry.0 i gap))

    pub sorted_insert : AreSorted eq cmp (insert entries i entry)
    sorted_insert = record {
      rise = λ k. IsNonDecreasingBy-insert (λ (e : K × ℕ). ordering_index (cmp e.0 k)) entries i entry (sorted.rise k) gap.within
          (λ j d before. index_le total (get_or entries j d).0 entry.0 k (gap.parts.0 j d (omega arith) before))
          (λ j d after h. index_le total entry.0 (get_or entries j d).0 k (total.antisymm entry.0 _ ∙ ap ordering_reverse (gap.parts.1 j d after h)));
      numbered = All-insert (λ (e : K × ℕ). lookup (eq e.0) (insert entries i entry) ≡ Some e.1) entries i entry gap.within
          (λ j d h.
          let old = get_or entries j d in
          let other : eq entry.0 old.0 ≡ false = false_from_ne_true _ (λ same.
          cc (sym (none_at_gap entries entry.0 i gap)
          ∙ same_lookup (eq entry.0) (eq old.0) (λ (x : K). laws.congr entry.0 old.0 x same) entries
          ∙ sorted.numbered j d h)) in
          with_entry old.0 ∙ ap (λ (is : Bool). cond is (Some entry.1) (lookup (eq old.0) entries)) other ∙ sorted.numbered j d h)
          (with_entry entry.0 ∙ ap (λ (is : Bool). cond is (Some entry.1) (lookup (eq entry.0) entries)) (laws.refl entry.0));
    }

    -- whether or not there was memory
    pub inserted :
        {E : Type 0} (r : Result (Unit {0}) E) (after : List (K × ℕ)) → after ≡ cond (is_ok r) (insert entries i entry) entries
        → AreSorted eq cmp after × OnOk r (IsWith eq entries after entry.0 entry.1)
    inserted (Ok v) after is = rw is (sorted_insert, with_entry)
    inserted (Err e) after is = rw is (sorted, tt)

-- what a binary search by the keys says
pub searched :
    {K : Type 0} (cmp : K → K → Ordering) (entries : List (K × ℕ)) (key : K) (r : Result ℕ ℕ)
    → ((k : K) → IsNonDecreasingBy (λ e. ordering_index (cmp e.0 k)) entries)
    → IsSearchInRange r (length entries) → IsBinarySearchResult (λ e. cmp e.0 key) entries r
    → IfOk r (HasKeyAt cmp entries key) × IfErr r (IsGapFor cmp entries key)
searched cmp entries key (Ok i) rise within found = (record { within = within; equal = found }, tt)
searched cmp entries key (Err i) rise within found = (tt, record { within = within; parts = found (rise key) })
