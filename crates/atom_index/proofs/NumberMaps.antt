-- A map whose keys are looked up by their hash or by their order, and one key more.
use Rattle.std.proofs.Common.{◌≡◌, ℕ, List, Bool, true, false, cond, Option, Some, None, refl, sym, ◌∙◌, ap}
use Rattle.std.specs.Cmp.{IsEquivalence}
use Rattle.std.specs.Map.{lookup}
use Rattle.std.specs.Option.{option_or}
use Rattle.indexmap.specs.IndexMap.{IndexMap, get}
use Rattle.atom_index.specs.Lookups.{map_in, AddsNumber}
use Rattle.atom_index.proofs.Lookups.{lookup-append, same_lookup}

added : (is : Bool) (o p : Option ℕ) (n : ℕ) → cond is (Some n) (option_or o p) ≡ option_or (cond is (Some n) o) p
added true o p n = refl
added false o p n = refl

-- what is added to the second map is found where the first has nothing
added_behind : (is : Bool) (o p : Option ℕ) (n : ℕ) → (is ≡ true → o ≡ None) → option_or o (cond is (Some n) p) ≡ cond is (Some n) (option_or o p)
added_behind true o p n none = ap (λ (first : Option ℕ). option_or first (Some n)) (none refl)
added_behind false o p n none = refl

neither : (o p : Option ℕ) → option_or o p ≡ None → (o ≡ None) × (p ≡ None)
neither None p none = (refl, none)
neither (Some n) p none = absurd (cc none)

module _ {K S : Type 0} (eq : K → K → Bool) where
  -- a key has a number iff one of the two has it
  pub in_both :
      (hashed : IndexMap K ℕ S) (ordered : List (K × ℕ)) (k : K)
      → get eq (map_in hashed ordered) k ≡ option_or (get eq hashed k) (lookup (eq k) ordered)
  in_both hashed ordered k = lookup-append (eq k) hashed.entries ordered

  pub in_first :
      (hashed : IndexMap K ℕ S) (ordered : List (K × ℕ)) (k : K) (n : ℕ)
      → get eq hashed k ≡ Some n → Some n ≡ get eq (map_in hashed ordered) k
  in_first hashed ordered k n has = sym (in_both hashed ordered k ∙ ap (λ (o : Option ℕ). option_or o (lookup (eq k) ordered)) has)

  pub in_second :
      (hashed : IndexMap K ℕ S) (ordered : List (K × ℕ)) (k : K)
      → get eq hashed k ≡ None → lookup (eq k) ordered ≡ get eq (map_in hashed ordered) k
  in_second hashed ordered k none = sym (in_both hashed ordered k ∙ ap (λ (o : Option ℕ). option_or o (lookup (eq k) ordered)) none)

  pub in_neither :
      (hashed : IndexMap K ℕ S) (ordered : List (K × ℕ)) (k : K)
      → get eq (map_in hashed ordered) k ≡ None → (get eq hashed k ≡ None) × (lookup (eq k) ordered ≡ None)
  in_neither hashed ordered k none = neither (get eq hashed k) (lookup (eq k) ordered) (sym (in_both hashed ordered k) ∙ none)

  pub hashed_adds :
      (hashed after : IndexMap K ℕ S) (ordered : List (K × ℕ)) (key : K) (n : ℕ)
      → ((k : K) → get eq after k ≡ cond (eq key k) (Some n) (get eq hashed k))
      → AddsNumber eq (map_in hashed ordered) (map_in after ordered) key n
  hashed_adds hashed after ordered key n updates k =
      let rest = lookup (eq k) ordered in
      in_both after ordered k
      ∙ ap (λ (o : Option ℕ). option_or o rest) (updates k)
      ∙ sym (added (eq key k) (get eq hashed k) rest n)
      ∙ ap (λ (o : Option ℕ). cond (eq key k) (Some n) o) (sym (in_both hashed ordered k))

  pub ordered_adds :
      IsEquivalence eq → (hashed : IndexMap K ℕ S) (ordered after : List (K × ℕ)) (key : K) (n : ℕ)
      → get eq hashed key ≡ None
      → ((k : K) → lookup (eq k) after ≡ cond (eq key k) (Some n) (lookup (eq k) ordered))
      → AddsNumber eq (map_in hashed ordered) (map_in hashed after) key n
  ordered_adds laws hashed ordered after key n none updates k =
      in_both hashed after k
      ∙ ap (λ (o : Option ℕ). option_or (get eq hashed k) o) (updates k)
      ∙ added_behind (eq key k) (get eq hashed k) (lookup (eq k) ordered) n
      (λ is. sym (same_lookup (eq key) (eq k) (λ (x : K). laws.congr key k x is) hashed.entries) ∙ none)
      ∙ ap (λ (o : Option ℕ). cond (eq key k) (Some n) o) (sym (in_both hashed ordered k))
