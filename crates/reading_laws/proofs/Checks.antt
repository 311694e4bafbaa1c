-- Checks one after the other: what their value tells.
use Rattle.std.proofs.Common.{◌≡◌, ℕ, Bool, true, false, Option, Some, None, Result, Ok, Err, refl, ap, subst}
use Rattle.hist_types.specs.Entries.{◌>>=◌, refuse_if, or_refuse}
use Rattle.hist_types.specs.declared.types.Fault.{Fault}
use Rattle.hist_types.specs.declared.types.Refusal.{Refusal}

pub no_ok : {A : Type 0} (f : Fault) (x : A) → (let r : Result A Fault = Err f in r ≡ Ok x) → ⊥
no_ok f x e = cc

pub same_ok : {A : Type 0} (x y : A) → (let r : Result A Fault = Ok x in r ≡ Ok y) → x ≡ y
same_ok x y e = cc

-- what holds of each value that next gives holds of what both give
pub ok_then :
    {A B : Type 0} (P : B → Type 0) (r : Result A Fault) (next : A → Result B Fault)
    → ((x : A) → r ≡ Ok x → (y : B) → next x ≡ Ok y → P y)
    → (y : B)
    → (r >>= next) ≡ Ok y
    → P y
ok_then P (Ok x) next h y e = h x refl y e
ok_then P (Err f) next h y e = absurd (no_ok f y e)

pub ok_is : {B : Type 0} (P : B → Type 0) (x y : B) → P x → (let r : Result B Fault = Ok x in r ≡ Ok y) → P y
ok_is P x y h e = subst P (same_ok x y e) h

pub or_some :
    {A : Type 0} (o : Option A) (refusal : Refusal) (n : ℕ) (x : A)
    → or_refuse o refusal n ≡ Ok x
    → o ≡ Some x
or_some None refusal n x e = absurd (no_ok _ x e)
or_some (Some y) refusal n x e = ap Some (same_ok y x e)

pub not_refused :
    (test : Bool) (refusal : Refusal) (n : ℕ) (u : Unit {0})
    → refuse_if test refusal n ≡ Ok u
    → test ≡ false
not_refused true refusal n u e = absurd (no_ok _ u e)
not_refused false refusal n u e = refl
