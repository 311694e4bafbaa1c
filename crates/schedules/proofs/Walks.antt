-- A closed walk that a schedule keeps has a pivot that starts before it commits.
use Rattle.std.proofs.Common.{◌≡◌, ◌⊎◌, inl, inr, ◌<◌, ◌≤◌, ◌+◌, ℕ, List, [], ◌∷◌, Bool, true, false, ◌&&◌, if◌then◌else◌, count_by, refl, sym, ◌∙◌, ap, subst, arith}
use Rattle.std.specs.List.{AllByRecursion}
use Rattle.std.proofs.lemmas.Bool.{false≢true, cases_Bool, cases_lt}
use Rattle.hist_types.specs.Edges.{Edge}
use Rattle.hist_types.specs.Phenomena.{Leads, IsClosedWalk, is_rw}
use Rattle.hist_types.proofs.Members.{In}
use Rattle.history_laws.proofs.ThinningWalks.{one_if, count-cons, count_yes, count_no}
use Rattle.schedules.specs.Cycles.{ends_with_rw, pivots_after, pivots}
use Rattle.schedules.specs.Schedules.{Schedule, IsKept}

-- where one is in the schedule who came to a transaction by an rw edge, or by another one
abbrev reached : Schedule → (by_rw : Bool) → ℕ → ℕ
reached s by_rw n = if by_rw then s.commit n else s.start n

abbrev left : Schedule → (by_rw : Bool) → ℕ → ℕ
left s by_rw n = if by_rw then s.start n else s.commit n

-- it commits no later than it starts
abbrev Stays : Schedule → ℕ → Type 0
Stays s n = s.commit n ≤ s.start n

module _ (s : Schedule) (first : (n : ℕ) → s.start n ≤ s.commit n) where
  passes :
      (came goes : Bool) (n : ℕ)
      → (came && goes ≡ true → Stays s n)
      → reached s came n ≤ left s goes n
  passes true true n pivot = pivot refl
  passes true false n pivot = omega arith
  passes false true n pivot = omega arith
  passes false false n pivot = first n

  parts :
      (pivot : Bool) (n : ℕ) (ns : List ℕ)
      → AllByRecursion (Stays s) (if pivot then n ∷ ns else ns)
      → (pivot ≡ true → Stays s n) × AllByRecursion (Stays s) ns
  parts true n ns all = (λ _. all.0, all.1)
  parts false n ns all = (λ e. elim (false≢true e) [ ], all)

  walk_rises :
      (came : Bool) (from to : ℕ) (walk : List Edge)
      → Leads from walk to
      → AllByRecursion (IsKept s) walk
      → AllByRecursion (Stays s) (pivots_after came walk)
      → reached s came from ≤ reached s (ends_with_rw came walk) to
  walk_rises came from to [] leads kept stay =
      subst (λ n. reached s came from ≤ reached s came n) leads (omega arith)
  walk_rises came from to (e ∷ es) leads kept stay =
      let (pivot, later) = parts (came && is_rw e) e.from (pivots_after (is_rw e) es) stay in
      let here : reached s came e.from ≤ left s (is_rw e) e.from =
      passes came (is_rw e) e.from pivot in
      let rest : reached s (is_rw e) e.to ≤ reached s (ends_with_rw (is_rw e) es) to =
      walk_rises (is_rw e) e.to to es leads.1 kept.1 later in
      let rises : left s (is_rw e) e.from < reached s (is_rw e) e.to = kept.0 in
      let on : reached s came e.from ≤ reached s (ends_with_rw (is_rw e) es) to =
      omega (arith, here, rises, rest) in
      subst (λ n. reached s came n ≤ reached s (ends_with_rw (is_rw e) es) to) leads.0 on

  never_closed :
      (walk : List Edge)
      → IsClosedWalk walk
      → AllByRecursion (IsKept s) walk
      → AllByRecursion (Stays s) (pivots walk)
      → ⊥
  never_closed [] closed kept stay = closed
  never_closed (e ∷ es) closed kept stay =
      let came : Bool = ends_with_rw (is_rw e) es in
      let (pivot, later) = parts (came && is_rw e) e.from (pivots_after (is_rw e) es) stay in
      let here : reached s came e.from ≤ left s (is_rw e) e.from =
      passes came (is_rw e) e.from pivot in
      let rest : reached s (is_rw e) e.to ≤ reached s came e.from =
      walk_rises (is_rw e) e.to e.from es closed kept.1 later in
      let rises : left s (is_rw e) e.from < reached s (is_rw e) e.to = kept.0 in
      let none : ⊥ = omega (arith, here, rises, rest) in
      none

  one_spans :
      (ns : List ℕ)
      → ((n : ℕ) × In n ns × (s.start n < s.commit n)) ⊎ AllByRecursion (Stays s) ns
  one_spans [] = inr tt
  one_spans (n ∷ ns) = elim (cases_lt (s.start n) (s.commit n)) [
    | inl spans ↦ inl (n, inl refl, spans)
    | inr stays ↦ elim (one_spans ns) [
      | inl later ↦ inl (later.0, inr later.1, later.2)
      | inr all ↦ inr (stays, all)
    ]
  ]

  pub has_pivot :
      (walk : List Edge)
      → IsClosedWalk walk
      → AllByRecursion (IsKept s) walk
      → (n : ℕ) × In n (pivots walk) × (s.start n < s.commit n)
  has_pivot walk closed kept = elim (one_spans (pivots walk)) [
    | inl one ↦ one
    | inr all ↦ absurd (never_closed walk closed kept all)
  ]

-- ---- walks with one rw edge at most

none_after :
    (came : Bool) (walk : List Edge)
    → one_if came + count_by is_rw walk ≤ 1
    → pivots_after came walk ≡ []
none_after came [] few = refl
none_after false (e ∷ es) few = none_after (is_rw e) es (omega (arith, few, count-cons is_rw e es))
none_after true (e ∷ es) few = elim (cases_Bool (is_rw e)) [
  | inl is ↦ absurd (omega (arith, few, count_yes is_rw e es is))
  | inr none ↦
      ap (λ b. if b then e.from ∷ pivots_after b es else pivots_after b es) none
      ∙ none_after false es (omega (arith, few, count_no is_rw e es none))
]

-- a walk that ends with an rw edge has one
ends_with_one :
    (came : Bool) (walk : List Edge)
    → ends_with_rw came walk ≡ true
    → 1 ≤ one_if came + count_by is_rw walk
ends_with_one came [] ends = let one : one_if came ≡ 1 = ap one_if ends in omega (arith, one)
ends_with_one came (e ∷ es) ends =
    let rest = ends_with_one (is_rw e) es ends in omega (arith, rest, count-cons is_rw e es)

pub no_pivot :
    (walk : List Edge)
    → IsClosedWalk walk
    → AllByRecursion (λ e. ¬ (e.from ≡ e.to)) walk
    → count_by is_rw walk ≤ 1
    → pivots walk ≡ []
no_pivot [] closed other few = refl
no_pivot (e ∷ []) closed other few = absurd (other.0 (sym closed))
no_pivot (e ∷ f ∷ es) closed other few = elim (cases_Bool (ends_with_rw (is_rw f) es)) [
  | inl ends ↦ (
      let one : 1 ≤ one_if (is_rw f) + count_by is_rw es = ends_with_one (is_rw f) es ends in
      let none : one_if (is_rw e) ≡ 0 =
      omega (arith, one, few, count-cons is_rw e (f ∷ es), count-cons is_rw f es) in
      let begins : is_rw e ≡ false = no_one (is_rw e) none in
      ap (λ b. pivots_after b (e ∷ f ∷ es)) ends
      ∙ ap (λ b. if b then e.from ∷ pivots_after b (f ∷ es) else pivots_after b (f ∷ es)) begins
      ∙ none_after false (f ∷ es) (omega (arith, few, count-cons is_rw e (f ∷ es)))
      )
  | inr not ↦
      ap (λ b. pivots_after b (e ∷ f ∷ es)) not ∙ none_after false (e ∷ f ∷ es) (omega (arith, few))
]
  where
    no_one : (b : Bool) → one_if b ≡ 0 → b ≡ false
    no_one false none = refl
    no_one true none = absurd (omega (arith, none))
