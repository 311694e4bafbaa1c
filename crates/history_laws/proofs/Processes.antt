-- The events of one process: the next one after an invocation, and the last one.
use Rattle.std.proofs.Common.{◌≡◌, ◌↔◌, inl, inr, ℕ, suc, ◌+◌, List, [], ◌∷◌, ◌++◌, length, Bool, true, false, ◌==◌, if◌then◌else◌, Option, Some, None, refl, sym, ◌∙◌, ap, subst, arith}
use Rattle.std.specs.List.{AllByRecursion}
use Rattle.std.specs.Option.{option_or}
use Rattle.std.proofs.lemmas.Bool.{cases_Bool, eqb-true, eqb-false}
use Rattle.std.proofs.lemmas.List.Elements.{All-from_recursion, recursion_from_All}
use Rattle.std.proofs.lemmas.Option.{none-some, same_Some}
use Rattle.hist_types.specs.Journal.{is_invoke, last_event}
use Rattle.history_laws.specs.Events.{IsOfAnother, IsNextOf, IsLastOf}
use Rattle.hist_types.specs.Operations.{Operation}
use Rattle.hist_types.specs.Transactions.{Indexed, completion_in}

pub told_apart : (m n : ℕ) → ¬ (m ≡ n) → (m == n) ≡ false
told_apart m n other = elim (cases_Bool (m == n)) [
  | inl same ↦ elim (other (eqb-true m n same)) [ ]
  | inr e ↦ e
]

told_alike : (m n : ℕ) → m ≡ n → (m == n) ≡ true
told_alike m n e = elim (cases_Bool (m == n)) [
  | inl same ↦ same
  | inr other ↦ elim (eqb-false m n other e) [ ]
]

-- ---- the next one

abbrev the_indexed : ℕ → Operation → Indexed
the_indexed index event = record { index = index; event = event }

-- what an event of the process gives: itself, if it is no invocation
abbrev given_by : Bool → ℕ → Operation → Option Indexed
given_by invokes index event = if invokes then None else Some (the_indexed index event)

abbrev Next : ℕ → ℕ → List Operation → Indexed → Type 0
Next process index events found =
    (before : List Operation)
    × (after : List Operation)
    × (events ≡ before ++ found.event ∷ after)
    × AllByRecursion (IsOfAnother process) before
    × (found.event.process ≡ process)
    × (found.index ≡ index + length before)

abbrev Completes : ℕ → ℕ → List Operation → Indexed → Type 0
Completes process index events found = Next process index events found × (is_invoke found.event.kind ≡ false)

next_given :
    (invokes : Bool) (process index : ℕ) (event : Operation) (events : List Operation) (found : Indexed)
    → is_invoke event.kind ≡ invokes
    → event.process ≡ process
    → given_by invokes index event ≡ Some found
    → Completes process index (event ∷ events) found
next_given true process index event events found kind same e = elim (none-some found e) [ ]
next_given false process index event events found kind same e =
    let here : the_indexed index event ≡ found = same_Some (the_indexed index event) found e in
    let n : index ≡ index + 0 = omega arith in
    subst (Completes process index (event ∷ events)) here (([], events, refl, tt, same, n), kind)

one_further :
    (process index : ℕ) (event : Operation) (events : List Operation) (found : Indexed)
    → ¬ (event.process ≡ process)
    → Completes process (index + 1) events found
    → Completes process index (event ∷ events) found
one_further process index event events found other c =
    let n : index + 1 + length c.0.0 ≡ index + suc (length c.0.0) = omega arith in
    ((event ∷ c.0.0, c.0.1, ap (λ es. event ∷ es) c.0.2, (other, c.0.3), c.0.4, c.0.5 ∙ n), c.1)

next_by :
    (same : Bool) (process index : ℕ) (event : Operation) (events : List Operation) (found : Indexed)
    → (event.process == process) ≡ same
    → (if same then given_by (is_invoke event.kind) index event else completion_in process (index + 1) events) ≡ Some found
    → (completion_in process (index + 1) events ≡ Some found → Completes process (index + 1) events found)
    → Completes process index (event ∷ events) found
next_by true process index event events found same e further =
    next_given (is_invoke event.kind) process index event events found refl (eqb-true event.process process same) e
next_by false process index event events found other e further =
    one_further process index event events found (eqb-false event.process process other) (further e)

completes : (process index : ℕ) (events : List Operation) (found : Indexed) → completion_in process index events ≡ Some found → Completes process index events found
completes process index [] found e = elim (none-some found e) [ ]
completes process index (event ∷ events) found e =
    next_by (event.process == process) process index event events found refl e (completes process (index + 1) events found)

completed :
    (process index : ℕ) (before after : List Operation) (event : Operation)
    → AllByRecursion (IsOfAnother process) before
    → event.process ≡ process
    → is_invoke event.kind ≡ false
    → completion_in process index (before ++ event ∷ after) ≡ Some (the_indexed (index + length before) event)
completed process index [] after event all same kind =
    let n : index ≡ index + 0 = omega arith in
    ap (λ b. if b then given_by (is_invoke event.kind) index event else completion_in process (index + 1) after) (told_alike event.process process same)
    ∙ (ap (λ b. given_by b index event) kind ∙ ap (λ i. Some (the_indexed i event)) n)
completed process index (other ∷ before) after event all same kind =
    let n : index + 1 + length before ≡ index + suc (length before) = omega arith in
    ap (λ b. if b then given_by (is_invoke other.kind) index other else completion_in process (index + 1) (before ++ event ∷ after)) (told_apart other.process process all.0)
    ∙ (completed process (index + 1) before after event all.1 same kind ∙ ap (λ i. Some (the_indexed i event)) n)

pub completion_in-next :
    (process index : ℕ) (events : List Operation) (found : Indexed)
    → (completion_in process index events ≡ Some found) ↔ (IsNextOf process index events found × (is_invoke found.event.kind ≡ false))
completion_in-next process index events found = (
  λ e.
      let c = completes process index events found e in
      ((c.0.0, c.0.1, c.0.2, All-from_recursion (IsOfAnother process) c.0.0 c.0.3, c.0.4, c.0.5), c.1),
  λ c.
      ap (completion_in process index) c.0.2
      ∙ (completed process index c.0.0 c.0.1 found.event (recursion_from_All (IsOfAnother process) c.0.0 c.0.3) c.0.4 c.1
      ∙ ap (λ i. Some (the_indexed i found.event)) (sym c.0.5)),
)

-- ---- the last one

abbrev Last : ℕ → List Operation → Operation → Type 0
Last process events event =
    (before : List Operation)
    × (after : List Operation)
    × (events ≡ before ++ event ∷ after)
    × (event.process ≡ process)
    × AllByRecursion (IsOfAnother process) after

-- an event, if it is of the process
abbrev own : Bool → Operation → Option Operation
own same event = if same then Some event else None

none_own : (process : ℕ) (events : List Operation) → last_event process events ≡ None → AllByRecursion (IsOfAnother process) events
none_own process [] e = tt
none_own process (event ∷ events) e =
    let both = none_of_two (last_event process events) (event.process == process) event e in
    (eqb-false event.process process both.1, none_own process events both.0)
  where
    none_of_two : (later : Option Operation) (same : Bool) (event : Operation) → option_or later (own same event) ≡ None → (later ≡ None) × (same ≡ false)
    none_of_two None true event e = elim (none-some event (sym e)) [ ]
    none_of_two None false event e = (refl, refl)
    none_of_two (Some later) same event e = elim (none-some later (sym e)) [ ]

last_by :
    (later : Option Operation) (same : Bool) (process : ℕ) (event : Operation) (events : List Operation) (found : Operation)
    → last_event process events ≡ later
    → (event.process == process) ≡ same
    → option_or later (own same event) ≡ Some found
    → (last_event process events ≡ Some found → Last process events found)
    → Last process (event ∷ events) found
last_by None true process event events found none same e further =
    subst (Last process (event ∷ events)) (same_Some event found e) ([], events, refl, eqb-true event.process process same, none_own process events none)
last_by None false process event events found none other e further = elim (none-some found e) [ ]
last_by (Some later) same process event events found is_later s e further =
    let l = further (is_later ∙ e) in
    (event ∷ l.0, l.1, ap (λ es. event ∷ es) l.2, l.3, l.4)

is_last : (process : ℕ) (events : List Operation) (found : Operation) → last_event process events ≡ Some found → Last process events found
is_last process [] found e = elim (none-some found e) [ ]
is_last process (event ∷ events) found e =
    last_by (last_event process events) (event.process == process) process event events found refl refl e (is_last process events found)

no_last : (process : ℕ) (events : List Operation) → AllByRecursion (IsOfAnother process) events → last_event process events ≡ None
no_last process [] all = refl
no_last process (event ∷ events) all =
    ap (λ later. option_or later (own (event.process == process) event)) (no_last process events all.1)
    ∙ ap (λ b. own b event) (told_apart event.process process all.0)

last_found :
    (process : ℕ) (before after : List Operation) (event : Operation)
    → event.process ≡ process
    → AllByRecursion (IsOfAnother process) after
    → last_event process (before ++ event ∷ after) ≡ Some event
last_found process [] after event same all =
    ap (λ later. option_or later (own (event.process == process) event)) (no_last process after all)
    ∙ ap (λ b. own b event) (told_alike event.process process same)
last_found process (other ∷ before) after event same all =
    ap (λ later. option_or later (own (other.process == process) other)) (last_found process before after event same all)

pub last_event-last : (process : ℕ) (events : List Operation) (event : Operation) → (last_event process events ≡ Some event) ↔ IsLastOf process events event
last_event-last process events event = (
  λ e.
      let l = is_last process events event e in
      (l.0, l.1, l.2, l.3, All-from_recursion (IsOfAnother process) l.1 l.4),
  λ l. ap (last_event process) l.2 ∙ last_found process l.0 l.1 event l.3 (recursion_from_All (IsOfAnother process) l.1 l.4),
)
