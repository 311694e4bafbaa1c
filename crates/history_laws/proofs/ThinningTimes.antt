-- When transactions begin and end: each completes behind its invocation, no two share an event, and those of a process run one by
-- one.
use Rattle.std.proofs.Common.{◌≡◌, inl, inr, ℕ, ◌+◌, ◌<◌, ◌≤◌, List, [], ◌∷◌, length, Bool, true, false, ◌==◌, if◌then◌else◌, Option, Some, None, IfSome, All, Contains, get_or, refl, sym, ◌∙◌, ap, subst, arith}
use Rattle.std.proofs.lemmas.Bool.{eqb-false}
use Rattle.std.proofs.lemmas.List.Elements.{Contains-get_or}
use Rattle.std.proofs.lemmas.Option.{none-some, same_Some}
use Rattle.hist_types.specs.Journal.{is_invoke}
use Rattle.hist_types.specs.Operations.{Operation}
use Rattle.hist_types.specs.Transactions.{Transaction, Indexed, completion_in, transaction_by, transactions_from, transactions_of}
use Rattle.history_laws.specs.Times.{AreInvokedInOrder, CompletesLater, CompletesBefore}
use Rattle.hist_types.proofs.Members.{In, in_from_Contains}
use Rattle.history_laws.proofs.Processes.{completion_in-next}

pub record AreTimed (ts : List Transaction) : Type 0 where
  pub later : (t : Transaction) (c : ℕ) → In t ts → t.completion ≡ Some c → t.invocation < c
  pub apart : (t u : Transaction) → In t ts → In u ts → t.invocation ≡ u.invocation → t ≡ u

pub invocation_by :
    (index : ℕ) (event : Operation) (found : Option Indexed)
    → (transaction_by index event found).invocation ≡ index
invocation_by index event None = refl
invocation_by index event (Some found) = refl

completion_by :
    (index : ℕ) (event : Operation) (found : Option Indexed) (c : ℕ)
    → (transaction_by index event found).completion ≡ Some c
    → (completion : Indexed) × (found ≡ Some completion) × (completion.index ≡ c)
completion_by index event None c e = elim (none-some c e) [ ]
completion_by index event (Some found) c e = (found, refl, same_Some found.index c e)

-- from this index on
pub record AreTimedFrom (index : ℕ) (ts : List Transaction) : Type 0 where
  pub from : (t : Transaction) → In t ts → index ≤ t.invocation
  pub times : AreTimed ts

timed_more :
    (invokes : Bool) (index : ℕ) (event : Operation) (events : List Operation) (ts : List Transaction)
    → AreTimedFrom (index + 1) ts
    → AreTimedFrom index (if invokes then transaction_by index event (completion_in event.process (index + 1) events) ∷ ts else ts)
timed_more false index event events ts rest = record {
  from = λ t i. let later : index + 1 ≤ t.invocation = rest.from t i in omega arith;
  times = rest.times;
}
timed_more true index event events ts rest =
    record { from = from; times = record { later = later; apart = apart } }
  where
    found : Option Indexed
    found = completion_in event.process (index + 1) events

    first : Transaction
    first = transaction_by index event found

    at : first.invocation ≡ index
    at = invocation_by index event found

    from : (t : Transaction) → In t (first ∷ ts) → index ≤ t.invocation
    from t (inl e) = let i : t.invocation ≡ index = ap (λ (u : Transaction). u.invocation) (sym e) ∙ at in omega arith
    from t (inr i) = let later : index + 1 ≤ t.invocation = rest.from t i in omega arith

    later_first : (c : ℕ) → first.completion ≡ Some c → first.invocation < c
    later_first c e =
        let by = completion_by index event found c e in
        let next = (completion_in-next event.process (index + 1) events by.0).0 by.1 in
        let n : by.0.index ≡ index + 1 + length next.0.0 = next.0.5 in
        let m : by.0.index ≡ c = by.2 in
        omega (arith, at)

    later : (t : Transaction) (c : ℕ) → In t (first ∷ ts) → t.completion ≡ Some c → t.invocation < c
    later t c (inl e) completion = subst (λ (u : Transaction). u.completion ≡ Some c → u.invocation < c) e (later_first c) completion
    later t c (inr i) completion = rest.times.later t c i completion

    not_first : (t : Transaction) → In t ts → ¬ (first.invocation ≡ t.invocation)
    not_first t i e = let later : index + 1 ≤ t.invocation = rest.from t i in omega (arith, at)

    apart : (t u : Transaction) → In t (first ∷ ts) → In u (first ∷ ts) → t.invocation ≡ u.invocation → t ≡ u
    apart t u (inl e) (inl f) same = sym e ∙ f
    apart t u (inl e) (inr j) same = elim (not_first u j (ap (λ (w : Transaction). w.invocation) e ∙ same)) [ ]
    apart t u (inr i) (inl f) same = elim (not_first t i (ap (λ (w : Transaction). w.invocation) f ∙ sym same)) [ ]
    apart t u (inr i) (inr j) same = rest.times.apart t u i j same

pub timed_from : (index : ℕ) (events : List Operation) → AreTimedFrom index (transactions_from index events)
timed_from index [] = record {
  from = λ t i. elim i [ ];
  times = record { later = λ t c i e. elim i [ ]; apart = λ t u i j e. elim i [ ] };
}
timed_from index (event ∷ events) =
    timed_more (is_invoke event.kind) index event events (transactions_from (index + 1) events) (timed_from (index + 1) events)

pub transactions_timed : (events : List Operation) → AreTimed (transactions_of events)
transactions_timed events = (timed_from 0 events).times

-- ---- no two share an event, and those of a process run one by one

pub record AreSequential (ts : List Transaction) : Type 0 where
  pub other : (t u : Transaction) (c : ℕ) → In t ts → In u ts → t.completion ≡ Some c → ¬ (c ≡ u.invocation)
  pub in_turn :
      (t u : Transaction) (c : ℕ)
      → In t ts
      → In u ts
      → t.process ≡ u.process
      → t.invocation < u.invocation
      → t.completion ≡ Some c
      → c < u.invocation

process_by :
    (index : ℕ) (event : Operation) (found : Option Indexed)
    → (transaction_by index event found).process ≡ event.process
process_by index event None = refl
process_by index event (Some found) = refl

-- no transaction begins with the completion, and none of the process before it
record BeginsElsewhere (process : ℕ) (found : Indexed) (t : Transaction) : Type 0 where
  other : ¬ (found.index ≡ t.invocation)
  behind : t.process ≡ process → found.index < t.invocation

begins_by :
    (same invokes : Bool) (process index : ℕ) (event : Operation) (events : List Operation) (found : Indexed) (t : Transaction)
    → (event.process == process) ≡ same
    → (if same then (if invokes then None else Some (record { index = index; event = event })) else completion_in process (index + 1) events) ≡ Some found
    → In t (if invokes then transaction_by index event (completion_in event.process (index + 1) events) ∷ transactions_from (index + 1) events else transactions_from (index + 1) events)
    → ((t : Transaction) → completion_in process (index + 1) events ≡ Some found → In t (transactions_from (index + 1) events) → BeginsElsewhere process found t)
    → BeginsElsewhere process found t
begins_by true true process index event events found t own e i further = elim (none-some found e) [ ]
begins_by true false process index event events found t own e i further =
    let here : index ≡ found.index = ap (λ (f : Indexed). f.index) (same_Some (record { index = index; event = event }) found e) in
    let later : index + 1 ≤ t.invocation = (timed_from (index + 1) events).from t i in
    record { other = omega arith; behind = λ own. omega arith }
begins_by false true process index event events found t own e (inl first) further =
    let next = (completion_in-next process (index + 1) events found).0 e in
    let n : found.index ≡ index + 1 + length next.0.0 = next.0.5 in
    let at : index ≡ t.invocation = sym (invocation_by index event (completion_in event.process (index + 1) events)) ∙ ap (λ (u : Transaction). u.invocation) first in
    let its : event.process ≡ t.process = sym (process_by index event (completion_in event.process (index + 1) events)) ∙ ap (λ (u : Transaction). u.process) first in
    record { other = omega arith; behind = λ same. elim (eqb-false event.process process own (its ∙ same)) [ ] }
begins_by false true process index event events found t own e (inr i) further = further t e i
begins_by false false process index event events found t own e i further = further t e i

begins_elsewhere :
    (process index : ℕ) (events : List Operation) (found : Indexed) (t : Transaction)
    → completion_in process index events ≡ Some found
    → In t (transactions_from index events)
    → BeginsElsewhere process found t
begins_elsewhere process index [] found t e i = elim i [ ]
begins_elsewhere process index (event ∷ events) found t e i =
    begins_by (event.process == process) (is_invoke event.kind) process index event events found t refl e i (begins_elsewhere process (index + 1) events found)

sequential_more :
    (invokes : Bool) (index : ℕ) (event : Operation) (events : List Operation)
    → AreSequential (transactions_from (index + 1) events)
    → AreSequential (if invokes then transaction_by index event (completion_in event.process (index + 1) events) ∷ transactions_from (index + 1) events else transactions_from (index + 1) events)
sequential_more false index event events rest = rest
sequential_more true index event events rest = record { other = other; in_turn = in_turn }
  where
    found : Option Indexed
    found = completion_in event.process (index + 1) events

    first : Transaction
    first = transaction_by index event found

    at : first.invocation ≡ index
    at = invocation_by index event found

    ts : List Transaction
    ts = transactions_from (index + 1) events

    elsewhere :
        (u : Transaction) (c : ℕ)
        → In u ts
        → first.completion ≡ Some c
        → ¬ (c ≡ u.invocation) × (event.process ≡ u.process → c < u.invocation)
    elsewhere u c i completion =
        let (by, is, same) = completion_by index event found c completion in
        let e : BeginsElsewhere event.process by u = begins_elsewhere event.process (index + 1) events by u is i in
        (λ met. e.other (same ∙ met), λ own. subst (λ n. n < u.invocation) same (e.behind (sym own)))

    times : AreTimed (first ∷ ts)
    times = (timed_more true index event events ts (timed_from (index + 1) events)).times

    other :
        (t u : Transaction) (c : ℕ)
        → In t (first ∷ ts)
        → In u (first ∷ ts)
        → t.completion ≡ Some c
        → ¬ (c ≡ u.invocation)
    other t u c (inl e) (inl f) completion met =
        let later : t.invocation < c = times.later t c (inl e) completion in
        let same : t.invocation ≡ u.invocation = ap (λ (w : Transaction). w.invocation) (sym e ∙ f) in
        let none : ⊥ = omega arith in
        elim none [ ]
    other t u c (inl e) (inr j) completion met =
        (elsewhere u c j (ap (λ (w : Transaction). w.completion) e ∙ completion)).0 met
    other t u c (inr i) (inl f) completion met =
        let later : t.invocation < c = times.later t c (inr i) completion in
        let from : index + 1 ≤ t.invocation = (timed_from (index + 1) events).from t i in
        let same : u.invocation ≡ index = ap (λ (w : Transaction). w.invocation) (sym f) ∙ at in
        let none : ⊥ = omega arith in
        elim none [ ]
    other t u c (inr i) (inr j) completion met = rest.other t u c i j completion met

    in_turn :
        (t u : Transaction) (c : ℕ)
        → In t (first ∷ ts)
        → In u (first ∷ ts)
        → t.process ≡ u.process
        → t.invocation < u.invocation
        → t.completion ≡ Some c
        → c < u.invocation
    in_turn t u c (inl e) (inl f) own before completion =
        let same : t.invocation ≡ u.invocation = ap (λ (w : Transaction). w.invocation) (sym e ∙ f) in
        omega arith
    in_turn t u c (inl e) (inr j) own before completion =
        let its : event.process ≡ t.process = sym (process_by index event found) ∙ ap (λ (w : Transaction). w.process) e in
        (elsewhere u c j (ap (λ (w : Transaction). w.completion) e ∙ completion)).1 (its ∙ own)
    in_turn t u c (inr i) (inl f) own before completion =
        let from : index + 1 ≤ t.invocation = (timed_from (index + 1) events).from t i in
        let same : u.invocation ≡ index = ap (λ (w : Transaction). w.invocation) (sym f) ∙ at in
        omega arith
    in_turn t u c (inr i) (inr j) own before completion = rest.in_turn t u c i j own before completion

sequential_from : (index : ℕ) (events : List Operation) → AreSequential (transactions_from index events)
sequential_from index [] = record { other = λ t u c i j e. elim i [ ]; in_turn = λ t u c i j own before e. elim i [ ] }
sequential_from index (event ∷ events) = sequential_more (is_invoke event.kind) index event events (sequential_from (index + 1) events)

pub transactions_sequential : (events : List Operation) → AreSequential (transactions_of events)
transactions_sequential events = sequential_from 0 events

-- ---- the law

invoked_more :
    (invokes : Bool) (index : ℕ) (event : Operation) (events : List Operation)
    → AreInvokedInOrder (transactions_from (index + 1) events)
    → AreInvokedInOrder (if invokes then transaction_by index event (completion_in event.process (index + 1) events) ∷ transactions_from (index + 1) events else transactions_from (index + 1) events)
invoked_more false index event events rest = rest
invoked_more true index event events rest =
    let first : Transaction = transaction_by index event (completion_in event.process (index + 1) events) in
    let at : first.invocation ≡ index = invocation_by index event (completion_in event.process (index + 1) events) in
    let ts : List Transaction = transactions_from (index + 1) events in (
      λ k d below.
          let c : In (get_or ts k d) ts = in_from_Contains (get_or ts k d) ts (Contains-get_or ts k d below) in
          let from : index + 1 ≤ (get_or ts k d).invocation = (timed_from (index + 1) events).from (get_or ts k d) c in
          omega (arith, at),
      rest,
    )

invoked_from : (index : ℕ) (events : List Operation) → AreInvokedInOrder (transactions_from index events)
invoked_from index [] = tt
invoked_from index (event ∷ events) = invoked_more (is_invoke event.kind) index event events (invoked_from (index + 1) events)

pub invoked_in_order : (events : List Operation) → AreInvokedInOrder (transactions_of events)
invoked_in_order events = invoked_from 0 events

if_some : (o : Option ℕ) (P : ℕ → Type 0) → ((c : ℕ) → o ≡ Some c → P c) → IfSome o P
if_some None P each = tt
if_some (Some c) P each = each c refl

pub completed_later : (events : List Operation) → All CompletesLater (transactions_of events)
completed_later events k d below =
    let ts : List Transaction = transactions_of events in
    let t : Transaction = get_or ts k d in
    if_some t.completion (λ c. t.invocation < c)
    (λ c e. (transactions_timed events).later t c (in_from_Contains t ts (Contains-get_or ts k d below)) e)

pub completed_elsewhere :
    (events : List Operation) (t u : Transaction)
    → Contains (transactions_of events) t
    → Contains (transactions_of events) u
    → ¬ (t.completion ≡ Some u.invocation)
completed_elsewhere events t u i j e =
    let ts : List Transaction = transactions_of events in
    (transactions_sequential events).other t u u.invocation (in_from_Contains t ts i) (in_from_Contains u ts j) e refl

pub completed_before :
    (events : List Operation) (t u : Transaction)
    → Contains (transactions_of events) t
    → Contains (transactions_of events) u
    → t.process ≡ u.process
    → t.invocation < u.invocation
    → CompletesBefore t u
completed_before events t u i j own before =
    let ts : List Transaction = transactions_of events in
    if_some t.completion (λ c. c < u.invocation)
    (λ c e. (transactions_sequential events).in_turn t u c (in_from_Contains t ts i) (in_from_Contains u ts j) own before e)
