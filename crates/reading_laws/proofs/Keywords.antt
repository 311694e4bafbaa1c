-- Runs that begin with a colon.
use Rattle.std.proofs.Common.{◌≡◌, inl, inr, ℕ, suc, ◌-◌, List, ◌∷◌, [], length, true, false, refl, arith}
use Rattle.std.specs.Prelude.{nat_eq, nat_lt}
use Rattle.std.specs.List.{ends_with}
use Rattle.std.proofs.lemmas.Bool.{cases_Bool, lt-ltb}
use Rattle.hist_types.specs.Bytes.{colon}
use Rattle.hist_types.specs.Tokens.{Keyword, run_kind, is_int}

-- what begins with a colon is no integer
pub colon_no_int : (b : ℕ) (bs : List ℕ) → is_int (colon ∷ b ∷ bs) ≡ false
colon_no_int b bs = elim (cases_Bool (ends_with nat_eq (colon ∷ b ∷ bs) (78 ∷ []))) [
  | inl is ↦ (
      let n : suc (suc (length bs)) - 1 ≡ suc (length bs) = omega arith in
      rw (is, n) refl)
  | inr is_not ↦ rw is_not refl
]

-- and one byte or more behind it makes a keyword
pub keyword_kind : (b : ℕ) (bs : List ℕ) → run_kind (colon ∷ b ∷ bs) ≡ Keyword
keyword_kind b bs =
    let none = colon_no_int b bs in
    let some : nat_lt 1 (suc (suc (length bs))) ≡ true = lt-ltb 1 (suc (suc (length bs))) (omega arith) in
    rw (none, some) refl
