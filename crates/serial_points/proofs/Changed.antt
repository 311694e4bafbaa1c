-- One event changes one transaction, and leaves the others at their places.
use Rattle.std.proofs.Common.{◌≡◌, ◌⊎◌, inl, inr, ℕ, zero, suc, List, [], ◌∷◌, ◌++◌, length, set, Bool, true, false, Some, None, arith, refl, sym, ◌∙◌, ap, subst}
use Rattle.std.specs.Prelude.{slice_get, ◌==◌}
use Rattle.std.specs.Bool.{MatchBool}
use Rattle.std.proofs.lemmas.Bool.{cases_Bool, eqb-true, eq-eqb, false≢true}
use Rattle.std.proofs.lemmas.Option.{none-some, same_Some, slice_get_within}
use Rattle.hist_types.specs.Journal.{is_invoke}
use Rattle.hist_types.specs.Operations.{Operation}
use Rattle.hist_types.specs.Transactions.{Transaction, transaction_by}
use Rattle.txn_pairs.specs.Growth.{BeginsOne, CompletesOne, IsChange}
use Rattle.txn_pairs.specs.Places.{completed}
use Rattle.serial_points.specs.NextPoints.{IsOfEvent}

pub same_or_not : (m n : ℕ) → (m ≡ n) ⊎ ¬ (m ≡ n)
same_or_not m n = elim (cases_Bool (m == n)) [
  | inl same ↦ inl (eqb-true m n same)
  | inr differ ↦ inr (λ e. false≢true (sym differ ∙ eq-eqb m n e))
]

-- the transaction at the place is of the event, and each other one was there before
pub record IsChanged (index : ℕ) (ts later : List Transaction) (place : ℕ) (t : Transaction) : Type 0 where
  pub at : slice_get later place ≡ Some t
  pub of : IsOfEvent index t
  pub other : (k : ℕ) (u : Transaction) → ¬ (k ≡ place) → slice_get later k ≡ Some u → slice_get ts k ≡ Some u
  pub was : (u : Transaction) → slice_get ts place ≡ Some u → t.invocation ≡ u.invocation
  pub still : (k : ℕ) (u : Transaction) → ¬ (k ≡ place) → slice_get ts k ≡ Some u → slice_get later k ≡ Some u

-- ---- one more

at_end : {X : Type 0} (xs : List X) (x : X) → slice_get (xs ++ x ∷ []) (length xs) ≡ Some x
at_end [] x = refl
at_end (y ∷ xs) x = at_end xs x

before_end : {X : Type 0} (xs : List X) (x : X) (k : ℕ) (y : X) → ¬ (k ≡ length xs) → slice_get (xs ++ x ∷ []) k ≡ Some y → slice_get xs k ≡ Some y
before_end [] x zero y other at = absurd (other refl)
before_end [] x (suc k) y other at = elim (none-some y at) [ ]
before_end (z ∷ xs) x zero y other at = at
before_end (z ∷ xs) x (suc k) y other at = before_end xs x k y (λ e. other (ap suc e)) at

pub in_front_of_end : {X : Type 0} (xs : List X) (x : X) (k : ℕ) (y : X) → slice_get xs k ≡ Some y → slice_get (xs ++ x ∷ []) k ≡ Some y
in_front_of_end [] x k y at = elim (none-some y at) [ ]
in_front_of_end (z ∷ xs) x zero y at = at
in_front_of_end (z ∷ xs) x (suc k) y at = in_front_of_end xs x k y at

-- ---- another one at the place

at_set : {X : Type 0} (xs : List X) (place : ℕ) (x was : X) → slice_get xs place ≡ Some was → slice_get (set xs place x) place ≡ Some x
at_set [] place x was at = elim (none-some was at) [ ]
at_set (z ∷ xs) zero x was at = refl
at_set (z ∷ xs) (suc place) x was at = at_set xs place x was at

beside : {X : Type 0} (xs : List X) (place : ℕ) (x : X) (k : ℕ) → ¬ (k ≡ place) → slice_get (set xs place x) k ≡ slice_get xs k
beside [] place x k other = refl
beside (z ∷ xs) zero x zero other = absurd (other refl)
beside (z ∷ xs) zero x (suc k) other = refl
beside (z ∷ xs) (suc place) x zero other = refl
beside (z ∷ xs) (suc place) x (suc k) other = beside xs place x k (λ e. other (ap suc e))

-- ---- both

-- the event begins the transaction, or completes it
abbrev pub BeginsOrCompletes : (index : ℕ) → Operation → (place : ℕ) → (ts later : List Transaction) → Type 0
BeginsOrCompletes index event place ts later =
    ((is_invoke event.kind ≡ true) × BeginsOne index event (Some place) ts later)
    ⊎ ((is_invoke event.kind ≡ false) × CompletesOne index event place ts later)

cases_match : (b : Bool) (P Q : Type 0) → MatchBool b P Q → ((b ≡ true) × P) ⊎ ((b ≡ false) × Q)
cases_match true P Q p = inl (refl, p)
cases_match false P Q q = inr (refl, q)

pub begins_or_completes : (index : ℕ) (event : Operation) (place : ℕ) (ts later : List Transaction) → IsChange index event (Some place) ts later → BeginsOrCompletes index event place ts later
begins_or_completes index event place ts later change =
    cases_match (is_invoke event.kind) (BeginsOne index event (Some place) ts later) (CompletesOne index event place ts later) change

pub changed_by_begin :
    (index : ℕ) (event : Operation) (place : ℕ) (ts later : List Transaction)
    → BeginsOne index event (Some place) ts later
    → IsChanged index ts later place (transaction_by index event None)
changed_by_begin index event place ts later begins =
    let new : Transaction = transaction_by index event None in
    let end : place ≡ length ts = same_Some place (length ts) begins.last in
    record {
      at = subst (λ us. slice_get us place ≡ Some new) (sym begins.listed) (ap (slice_get (ts ++ new ∷ [])) end ∙ at_end ts new);
      of = inl refl;
      was = λ u at. absurd (let within = slice_get_within ts place u at in omega (arith, within, end));
      other = λ k u differ at. before_end ts new k u (λ e. differ (e ∙ sym end)) (subst (λ us. slice_get us k ≡ Some u) begins.listed at);
      still = λ k u differ at. subst (λ us. slice_get us k ≡ Some u) (sym begins.listed) (in_front_of_end ts new k u at);
    }

pub changed_by_end :
    (index : ℕ) (event : Operation) (place : ℕ) (ts later : List Transaction)
    → (done : CompletesOne index event place ts later)
    → IsChanged index ts later place (completed done.was index event)
changed_by_end index event place ts later done =
    let c : Transaction = completed done.was index event in
    record {
      at = subst (λ us. slice_get us place ≡ Some c) (sym done.listed) (at_set ts place c done.was done.there);
      of = inr refl;
      was = λ u at. ap (λ (x : Transaction). x.invocation) (same_Some done.was u (sym done.there ∙ at));
      other = λ k u differ at. sym (beside ts place c k differ) ∙ subst (λ us. slice_get us k ≡ Some u) done.listed at;
      still = λ k u differ at. subst (λ us. slice_get us k ≡ Some u) (sym done.listed) (beside ts place c k differ ∙ at);
    }
