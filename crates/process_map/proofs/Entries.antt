-- What the entries of a table and a map tell of a process.
use Rattle.std.proofs.Common.{◌≡◌, ◌∙◌, ◌<◌, ◌+◌, ◌==◌, ℕ, zero, suc, List, [], ◌∷◌, ◌++◌, Bool, true, false, cond, not, filter, Option, Some, None, get_or, nat_lt, nat_eq, ap, sym, subst, refl, zero-add, arith, rules, length, replicate, take, ◌≤◌, inl, inr}
use Rattle.std.specs.Map.{lookup}
use Rattle.std.specs.Option.{option_or}
use Rattle.std.specs.HashMap.{HashMap, get}
use Rattle.std.proofs.lemmas.Map.Entries.{lookup-filter-keys}
use Rattle.std.proofs.Math.ListN.{set}
use Rattle.std.proofs.lemmas.Bool.{cases_eq, lt-ltb}
use Rattle.std.proofs.lemmas.Option.{none-some}
use Rattle.std.proofs.lemmas.List.{get_or-set_same, get_or-set_other, take_all}
use Rattle.process_map.specs.Values.{value_of, entries_from, entries_of}
use Rattle.process_map.specs.declared.map.TheConstants.{SMALL}

lookup-append : {V : Type 0} (test : ℕ → Bool) (xs ys : List (ℕ × V)) → lookup test (xs ++ ys) ≡ option_or (lookup test xs) (lookup test ys)
lookup-append test [] ys = refl
lookup-append test (x ∷ xs) ys = Prim.grind (rules, lookup-append test xs ys)

-- none of the entries is of a process before the first
lookup_before : {V : Type 0} (first p : ℕ) (values : List (Option V)) → p < first → lookup (nat_eq p) (entries_from first values) ≡ None
lookup_before first p [] low = refl
lookup_before first p (None ∷ values) low = lookup_before (suc first) p values (omega (arith, low))
lookup_before first p (Some v ∷ values) low = Prim.grind (rules, arith, low, lookup_before (suc first) p values (omega (arith, low)))

lookup_table : {V : Type 0} (first i : ℕ) (values : List (Option V)) → lookup (nat_eq (first + i)) (entries_from first values) ≡ get_or values i None
lookup_table first i [] = refl
lookup_table first zero (None ∷ values) = lookup_before (suc first) (first + 0) values (omega arith)
lookup_table first zero (Some v ∷ values) = Prim.grind (rules, arith)
lookup_table first (suc i) (None ∷ values) = Prim.grind (rules, arith, lookup_table (suc first) i values)
lookup_table first (suc i) (Some v ∷ values) = Prim.grind (rules, arith, lookup_table (suc first) i values)

lookup_first : {V : Type 0} (p : ℕ) (values : List (Option V)) → lookup (nat_eq p) (entries_from 0 values) ≡ get_or values p None
lookup_first p values = subst (λ k. lookup (nat_eq k) (entries_from 0 values) ≡ get_or values p None) (zero-add p) (lookup_table 0 p values)

is_small : (p : ℕ) (k : ℕ) → nat_eq p k ≡ true → nat_lt k SMALL ≡ nat_lt p SMALL
is_small p k e = Prim.grind (rules, arith, e)

is_large : (p : ℕ) (k : ℕ) → nat_eq p k ≡ true → not (nat_lt k SMALL) ≡ not (nat_lt p SMALL)
is_large p k e = ap not (is_small p k e)

one_of : {V : Type 0} (b : Bool) (x y : Option V) → option_or (cond b x None) (cond (not b) y None) ≡ cond b x y
one_of false x y = refl
one_of true None y = refl
one_of true (Some v) y = refl

pub value_in : {V S : Type 0} (small : List (Option V)) (large : HashMap ℕ V S) (p : ℕ)
    → value_of (entries_of small large) p ≡ cond (nat_lt p SMALL) (get_or small p None) (get nat_eq large p)
value_in small large p =
    lookup-append (nat_eq p) (filter (λ e. nat_lt e.0 SMALL) (entries_from 0 small)) (filter (λ e. not (nat_lt e.0 SMALL)) large.entries)
    ∙ ap (λ o. option_or o (lookup (nat_eq p) (filter (λ e. not (nat_lt e.0 SMALL)) large.entries)))
    (lookup-filter-keys (nat_eq p) (λ k. nat_lt k SMALL) (nat_lt p SMALL) (is_small p) (entries_from 0 small) ∙ ap (λ o. cond (nat_lt p SMALL) o None) (lookup_first p small))
    ∙ ap (option_or (cond (nat_lt p SMALL) (get_or small p None) None)) (lookup-filter-keys (nat_eq p) (λ k. not (nat_lt k SMALL)) (not (nat_lt p SMALL)) (is_large p) large.entries)
    ∙ one_of (nat_lt p SMALL) (get_or small p None) (get nat_eq large p)

within_table : {V : Type 0} (small : List (Option V)) (i : ℕ) (v : V) → get_or small i None ≡ Some v → i < length small
within_table [] i v e = absurd (none-some v e)
within_table (x ∷ xs) zero v e = omega arith
within_table (x ∷ xs) (suc i) v e = (let below = within_table xs i v e in omega (arith, below))

-- a small process with a value has a place
pub has_place : {V S : Type 0} (small : List (Option V)) (large : HashMap ℕ V S) (p : ℕ) (v : V)
    → p < SMALL → value_of (entries_of small large) p ≡ Some v → p < length small
has_place small large p v low e =
    within_table small p v
    (sym (value_in small large p ∙ ap (λ b. cond b (get_or small p None) (get nat_eq large p)) (lt-ltb p SMALL low)) ∙ e)

-- ---- a table that changes

value_in_none : {V : Type 0} (n p : ℕ) → get_or (replicate {A = Option V} n None) p None ≡ None
value_in_none zero p = refl
value_in_none (suc n) zero = refl
value_in_none (suc n) (suc p) = value_in_none n p

-- more places without a value
value_in_longer : {V : Type 0} (small : List (Option V)) (n p : ℕ) → get_or (small ++ replicate n None) p None ≡ get_or small p None
value_in_longer [] n p = value_in_none n p
value_in_longer (x ∷ xs) n zero = refl
value_in_longer (x ∷ xs) n (suc p) = value_in_longer xs n p

pub value_in_resized : {V : Type 0} (small now : List (Option V)) (len n p : ℕ) → length small ≤ len → now ≡ take len small ++ replicate n None → get_or now p None ≡ get_or small p None
value_in_resized small now len n p long is =
    ap (λ xs. get_or xs p None) (is ∙ ap (λ xs. xs ++ replicate n None) (take_all len small long)) ∙ value_in_longer small n p

-- another value at one place
pub value_in_set : {V : Type 0} (small : List (Option V)) (i p : ℕ) (value other : Option V) → i < SMALL → i < length small
    → cond (nat_lt p SMALL) (get_or (set small i value) p None) other ≡ cond (i == p) value (cond (nat_lt p SMALL) (get_or small p None) other)
value_in_set small i p value other low there = elim (cases_eq p i) [
  | inl same ↦ (let is = get_or-set_same small i value None there in Prim.grind (rules, arith, is, same, low))
  | inr differ ↦ (let is = get_or-set_other small i p value None differ in Prim.grind (rules, arith, is, differ))
]
