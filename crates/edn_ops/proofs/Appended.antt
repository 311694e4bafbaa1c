-- What has been appended to a list of bytes.
use Rattle.std.proofs.Common.{arith, ◌≡◌, List, ℕ, [], ◌++◌, Result, Ok, Err, sym, ◌∙◌, ap, subst}
use Rattle.std.specs.Prelude.{if◌then◌else◌, OnOk, OnErr}
use Rattle.std.specs.Result.{is_ok}
use Rattle.std.proofs.lemmas.List.{append_assoc, append-nil}
use Rattle.edn_ops.specs.SourceTexts.{IsLonger}

-- what is equal may be said of what an `Ok` has appended
pub appended_as : {T E : Type 0} (r : Result T E) (new old xs ys : List ℕ) → xs ≡ ys → OnOk r (new ≡ old ++ xs) → OnOk r (new ≡ old ++ ys)
appended_as r new old xs ys e h = subst (λ (zs : List ℕ). OnOk r (new ≡ old ++ zs)) e h

-- an `Ok` has appended the bytes
pub extended : {T E : Type 0} (r : Result T E) (new old xs ys : List ℕ) → new ≡ (if is_ok r then old ++ xs else old) → xs ≡ ys → OnOk r (new ≡ old ++ ys)
extended (Ok x) new old xs ys e same = e ∙ ap (λ (zs : List ℕ). old ++ zs) same
extended (Err x) new old xs ys e same = tt

-- ---- longer lists

pub longer : (new old more : List ℕ) → new ≡ old ++ more → IsLonger new old
longer new old more e = (more, e)

pub longer_itself : (new old : List ℕ) → new ≡ old → IsLonger new old
longer_itself new old e = ([], e ∙ sym (append-nil old))

pub longer_than : (new middle old : List ℕ) → IsLonger new middle → IsLonger middle old → IsLonger new old
longer_than new middle old first second =
    (second.0 ++ first.0, first.1 ∙ ap (λ (xs : List ℕ). xs ++ first.0) second.1 ∙ append_assoc old second.0 first.0)

pub longer_unless : {T E : Type 0} (r : Result T E) (new old more : List ℕ) → new ≡ (if is_ok r then old ++ more else old) → IsLonger new old
longer_unless (Ok x) new old more e = (more, e)
longer_unless (Err x) new old more e = longer_itself new old e

pub on_err : {T E P : Type 0} (r : Result T E) → P → OnErr r P
on_err r h = grind arith

-- what follows from the bytes that an `Ok` has appended
pub then_extended : {T E P : Type 0} (r : Result T E) (new old more : List ℕ) → new ≡ (if is_ok r then old ++ more else old) → (new ≡ old ++ more → P) → OnOk r P
then_extended (Ok x) new old more e next = next e
then_extended (Err x) new old more e next = tt
