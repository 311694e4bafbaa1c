-- What transactions give by their places, as members of one list.
use Rattle.std.proofs.Common.{◌≡◌, inl, inr, ◌<◌, ◌+◌, ℕ, zero, suc, List, [], ◌∷◌, ◌++◌, map, Bool, false, cond, Some, refl, sym, ◌∙◌, ap, subst, arith}
use Rattle.std.specs.Prelude.{slice_get, filter, ◌==◌}
use Rattle.std.proofs.lemmas.Bool.{cases_Bool, eqb-true, eq-eqb}
use Rattle.std.proofs.lemmas.List.{append-nil}
use Rattle.std.proofs.lemmas.List.Elements.{filter-append}
use Rattle.std.proofs.lemmas.Option.{none-some, same_Some}
use Rattle.hist_types.specs.Transactions.{Transaction}
use Rattle.hist_types.proofs.Members.{In, in_front, in_back, in_append}
use Rattle.key_versions.specs.Histories.{from_place}

pub place_in : {A : Type 0} (x : A) (xs : List A) → In x xs → (j : ℕ) × (slice_get xs j ≡ Some x)
place_in x [] i = elim i [ ]
place_in x (y ∷ xs) (inl e) = (0, ap Some e)
place_in x (y ∷ xs) (inr i) = let (j, at) = place_in x xs i in (suc j, at)

pub in_place : {A : Type 0} (x : A) (xs : List A) (j : ℕ) → slice_get xs j ≡ Some x → In x xs
in_place x [] j at = elim (none-some x at) [ ]
in_place x (y ∷ xs) zero at = inl (same_Some y x at)
in_place x (y ∷ xs) (suc j) at = inr (in_place x xs j at)

pub from_some_place : {A : Type 0} (f : ℕ → Transaction → List A) (k : ℕ) (ts : List Transaction) (y : A) → In y (from_place f k ts) → (j : ℕ) × (t : Transaction) × (slice_get ts j ≡ Some t) × In y (f (k + j) t)
from_some_place f k [] y i = elim i [ ]
from_some_place f k (t ∷ ts) y i = elim (in_append y (f k t) (from_place f (k + 1) ts) i) [
  | inl here ↦ (let at : k ≡ k + 0 = omega arith in (0, t, refl, subst (λ n. In y (f n t)) at here))
  | inr later ↦ (
      let (j, u, get, among) = from_some_place f (k + 1) ts y later in
      let at : k + 1 + j ≡ k + suc j = omega arith in
      (suc j, u, get, subst (λ n. In y (f n u)) at among))
]

pub to_place : {A : Type 0} (f : ℕ → Transaction → List A) (k : ℕ) (ts : List Transaction) (j : ℕ) (t : Transaction) (y : A) → slice_get ts j ≡ Some t → In y (f (k + j) t) → In y (from_place f k ts)
to_place f k [] j t y e i = elim (none-some t e) [ ]
to_place f k (u ∷ ts) zero t y e i =
    let at : k + 0 ≡ k = omega arith in
    in_front y (f k u) (from_place f (k + 1) ts) (subst (λ x. In y (f k x)) (sym (same_Some u t e)) (subst (λ n. In y (f n t)) at i))
to_place f k (u ∷ ts) (suc j) t y e i =
    let at : k + suc j ≡ k + 1 + j = omega arith in
    in_back y (f k u) (from_place f (k + 1) ts) (to_place f (k + 1) ts j t y e (subst (λ n. In y (f n t)) at i))

-- ---- each with its place

abbrev with_place : {A : Type 0} → ℕ → A → ℕ × A
with_place place x = (place, x)

abbrev is_at : {A : Type 0} → ℕ → ℕ × A → Bool
is_at place p = p.0 == place

differ_later : (m k : ℕ) → m < k → (k == m) ≡ false
differ_later m k less = elim (cases_Bool (k == m)) [
  | inl is ↦ absurd (let same = eqb-true k m is in omega arith)
  | inr differ ↦ differ
]

here_all : {A : Type 0} (k : ℕ) (xs : List A) → filter (is_at k) (map (with_place k) xs) ≡ map (with_place k) xs
here_all k [] = refl
here_all {A} k (x ∷ xs) =
    ap (λ b. cond b ((k, x) ∷ filter (is_at k) (map (with_place k) xs)) (filter (is_at k) (map (with_place k) xs))) (eq-eqb k k refl)
    ∙ ap (λ (ps : List (ℕ × A)). (k, x) ∷ ps) (here_all k xs)

there_none : {A : Type 0} (m k : ℕ) (xs : List A) → (k == m) ≡ false → filter (is_at m) (map (with_place k) xs) ≡ []
there_none m k [] differ = refl
there_none {A} m k (x ∷ xs) differ =
    ap (λ b. cond b ((k, x) ∷ filter (is_at m) (map (with_place k) xs)) (filter (is_at m) (map (with_place k) xs))) differ ∙ there_none m k xs differ

later_none :
    {A : Type 0} (f : Transaction → List A) (m k : ℕ) (ts : List Transaction) → m < k
    → filter (is_at m) (from_place (λ place t. map (with_place place) (f t)) k ts) ≡ []
later_none f m k [] less = refl
later_none {A} f m k (t ∷ ts) less =
    filter-append (is_at m) (map (with_place k) (f t)) (from_place (λ place t. map (with_place place) (f t)) (k + 1) ts)
    ∙ ap (λ (ps : List (ℕ × A)). ps ++ filter (is_at m) (from_place (λ place t. map (with_place place) (f t)) (k + 1) ts)) (there_none m k (f t) (differ_later m k less))
    ∙ later_none f m (k + 1) ts (omega arith)

-- the part of one place
pub part_at :
    {A : Type 0} (f : Transaction → List A) (k i : ℕ) (ts : List Transaction) (t : Transaction) → slice_get ts i ≡ Some t
    → filter (is_at (k + i)) (from_place (λ place t. map (with_place place) (f t)) k ts) ≡ map (with_place (k + i)) (f t)
part_at f k i [] t at = elim (none-some t at) [ ]
part_at {A} f k zero (u ∷ ts) t at =
    let rest = from_place (λ place t. map (with_place place) (f t)) (k + 1) ts in
    let m : k + 0 ≡ k = omega arith in
    subst (λ n. filter (is_at n) (map (with_place k) (f u) ++ rest) ≡ map (with_place n) (f t)) (sym m)
    (filter-append (is_at k) (map (with_place k) (f u)) rest
    ∙ ap (λ (ps : List (ℕ × A)). ps ++ filter (is_at k) rest) (here_all k (f u))
    ∙ ap (λ (ps : List (ℕ × A)). map (with_place k) (f u) ++ ps) (later_none f k (k + 1) ts (omega arith))
    ∙ append-nil (map (with_place k) (f u))
    ∙ ap (λ v. map (with_place k) (f v)) (same_Some u t at))
part_at {A} f k (suc i) (u ∷ ts) t at =
    let rest = from_place (λ place t. map (with_place place) (f t)) (k + 1) ts in
    let m : k + 1 + i ≡ k + suc i = omega arith in
    let apart : (k == k + suc i) ≡ false = elim (cases_Bool (k == k + suc i)) [
      | inl is ↦ absurd (let same = eqb-true k (k + suc i) is in omega arith)
      | inr differ ↦ differ
    ] in
    filter-append (is_at (k + suc i)) (map (with_place k) (f u)) rest
    ∙ ap (λ (ps : List (ℕ × A)). ps ++ filter (is_at (k + suc i)) rest) (there_none (k + suc i) k (f u) apart)
    ∙ subst (λ n. filter (is_at n) rest ≡ map (with_place n) (f t)) m (part_at f (k + 1) i ts t at)
