-- Lists that are filtered and searched; errors.
use Rattle.std.proofs.Common.{◌≡◌, Bool, true, false, List, Result, Ok, Err, OnOk, OnErr, sym, ◌∙◌}
use Rattle.std.specs.List.{list_any}
use Rattle.std.proofs.lemmas.Bool.{false≢true, false_from_ne_true}
use Rattle.hist_types.proofs.Members.{In}
use Rattle.history_laws.proofs.ThinningPaths.{any_passes, some_passes}

-- ---- whether some element passes a test

pub none_from : {X : Type 0} (p : X → Bool) (xs : List X) → ((x : X) → In x xs → p x ≡ true → ⊥) → list_any p xs ≡ false
none_from p xs none = false_from_ne_true (list_any p xs) (λ h. let found = some_passes p xs h in none found.0 found.1 found.2)

pub none_to : {X : Type 0} (p : X → Bool) (xs : List X) → list_any p xs ≡ false → (x : X) → In x xs → p x ≡ true → ⊥
none_to p xs none x i passes = false≢true (sym none ∙ any_passes p x xs i passes)

-- what holds holds on an error
pub on_err : {T E P : Type 0} (r : Result T E) → P → OnErr r P
on_err (Ok x) holds = tt
on_err (Err e) holds = holds

pub on_oks : {T E P Q R : Type 0} (r : Result T E) → (P → Q → R) → OnOk r P → OnOk r Q → OnOk r R
on_oks (Ok x) follows p q = follows p q
on_oks (Err e) follows p q = tt
