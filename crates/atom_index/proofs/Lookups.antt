-- Look-ups in entries.
use Rattle.std.proofs.Common.{◌≡◌, inl, inr, List, [], ◌∷◌, ◌++◌, Bool, cond, Option, Some, refl, ◌∙◌, ap}
use Rattle.std.specs.Map.{lookup}
use Rattle.std.specs.Option.{option_or}
use Rattle.std.proofs.lemmas.Bool.{cases_Bool}

module _ {K X : Type 0} where
  pub lookup-append : (test : K → Bool) (xs ys : List (K × X)) → lookup test (xs ++ ys) ≡ option_or (lookup test xs) (lookup test ys)
  lookup-append test [] ys = refl
  lookup-append test (e ∷ xs) ys = elim (cases_Bool (test e.0)) [
    | inl is ↦ rw is refl
    | inr is_not ↦ rw is_not (lookup-append test xs ys)
  ]

  pub same_lookup : (test other : K → Bool) → ((k : K) → test k ≡ other k) → (es : List (K × X)) → lookup test es ≡ lookup other es
  same_lookup test other same [] = refl
  same_lookup test other same (e ∷ es) =
      ap (λ (is : Bool). cond is (Some e.1) (lookup test es)) (same e.0)
      ∙ ap (λ (o : Option X). cond (other e.0) (Some e.1) o) (same_lookup test other same es)
