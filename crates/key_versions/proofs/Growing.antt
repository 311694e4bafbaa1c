-- A history with one transaction more.
use Rattle.std.proofs.Common.{◌≡◌, ◌+◌, ℕ, List, [], ◌∷◌, ◌++◌, length, map, Bool, true, false, cond, Some, None, refl, sym, ◌∙◌, ap, arith}
use Rattle.std.specs.Prelude.{slice_get, ◌||◌}
use Rattle.std.specs.List.{list_any}
use Rattle.std.specs.Option.{option_or}
use Rattle.std.proofs.lemmas.List.{append_assoc, append-nil}
use Rattle.hist_types.specs.Transactions.{Transaction, Version, is_known_to_read, writes, wrote_intermediate, has_version}
use Rattle.hist_types.specs.declared.types.KeyOrder.TheVariants.{Basic}
use Rattle.key_versions.specs.Histories.{from_place, named_by, is_named, writer_of, readers_of, followers_of, installs_behind}
use Rattle.key_versions.specs.declared.types.Writer.{Writer}

from_place-push :
    {A : Type 0} (f : ℕ → Transaction → List A) (place : ℕ) (ts : List Transaction) (t : Transaction)
    → from_place f place (ts ++ t ∷ []) ≡ from_place f place ts ++ f (place + length ts) t
from_place-push f place [] t =
    let here : place ≡ place + 0 = omega arith in
    append-nil (f place t) ∙ ap (λ p. f p t) here
from_place-push {A} f place (u ∷ ts) t =
    let behind : place + 1 + length ts ≡ place + length (u ∷ ts) = omega arith in
    ap (λ (xs : List A). f place u ++ xs) (from_place-push f (place + 1) ts t ∙ ap (λ p. from_place f (place + 1) ts ++ f p t) behind)
    ∙ sym (append_assoc (f place u) (from_place f (place + 1) ts) (f (place + length (u ∷ ts)) t))

abbrev pub writer_at : ℕ → Bool → Writer
writer_at place over = record { txn = place; over = over }

first-append : {A : Type 0} (xs ys : List A) → slice_get (xs ++ ys) 0 ≡ option_or (slice_get xs 0) (slice_get ys 0)
first-append [] ys = refl
first-append (x ∷ xs) ys = refl

first_if : (b : Bool) (w : Writer) → slice_get (cond b (w ∷ []) []) 0 ≡ cond b (Some w) None
first_if true w = refl
first_if false w = refl

from_zero : (n : ℕ) → 0 + n ≡ n
from_zero n = omega arith

pub writer-push :
    (ts : List Transaction) (t : Transaction) (v : Version)
    → writer_of (ts ++ t ∷ []) v ≡ option_or (writer_of ts v) (cond (writes t v) (Some (writer_at (length ts) (wrote_intermediate t v))) None)
writer-push ts t v =
    let f = λ (place : ℕ) (t : Transaction). cond (writes t v) (writer_at place (wrote_intermediate t v) ∷ []) [] in
    ap (λ (ws : List Writer). slice_get ws 0) (from_place-push f 0 ts t ∙ ap (λ n. from_place f 0 ts ++ f n t) (from_zero (length ts)))
    ∙ first-append (from_place f 0 ts) (f (length ts) t)
    ∙ ap (option_or (writer_of ts v)) (first_if (writes t v) (writer_at (length ts) (wrote_intermediate t v)))

pub readers-push :
    (ts : List Transaction) (t : Transaction) (v : Version)
    → readers_of (ts ++ t ∷ []) v ≡ readers_of ts v ++ cond (is_known_to_read t v) (length ts ∷ []) []
readers-push ts t v =
    let f = λ (place : ℕ) (t : Transaction). cond (is_known_to_read t v) (place ∷ []) [] in
    from_place-push f 0 ts t ∙ ap (λ n. from_place f 0 ts ++ f n t) (from_zero (length ts))

abbrev pub with_place : ℕ → Version → ℕ × Version
with_place place w = (place, w)

pub followers-push :
    (ts : List Transaction) (t : Transaction) (v : Version)
    → followers_of Basic (ts ++ t ∷ []) v ≡ followers_of Basic ts v ++ map (with_place (length ts)) (installs_behind [] t v)
followers-push ts t v =
    let f = λ (place : ℕ) (t : Transaction). map (with_place place) (installs_behind [] t v) in
    from_place-push f 0 ts t ∙ ap (λ n. from_place f 0 ts ++ f n t) (from_zero (length ts))

any-push : {A : Type 0} (p : A → Bool) (xs : List A) (x : A) → list_any p (xs ++ x ∷ []) ≡ (list_any p xs || p x)
any-push p [] x = any_one (p x)
  where
    any_one : (b : Bool) → (b || false) ≡ b
    any_one true = refl
    any_one false = refl
any-push p (y ∷ xs) x = by (p y) (list_any p (xs ++ x ∷ [])) (list_any p xs) (p x) (any-push p xs x)
  where
    by : (a b c d : Bool) → b ≡ (c || d) → (a || b) ≡ ((a || c) || d)
    by true b c d e = refl
    by false b c d e = e

pub named-push :
    (ts : List Transaction) (t : Transaction) (v : Version) → is_named (ts ++ t ∷ []) v ≡ (is_named ts v || has_version (named_by t) v)
named-push ts t v = any-push (λ (u : Transaction). has_version (named_by u) v) ts t
