-- The transactions of events and one more, by those of the events: all but the event's own were there before.
use Rattle.std.proofs.Common.{◌≡◌, ◌⊎◌, inl, inr, ℕ, suc, ◌+◌, ◌<◌, List, [], ◌∷◌, ◌++◌, length, length-append, Bool, true, false, ◌&&◌, ◌==◌, if◌then◌else◌, Option, Some, None, option_map, filter, refl, sym, ◌∙◌, ap, subst, arith}
use Rattle.std.proofs.lemmas.Bool.{false≢true, and_parts, cases_Bool}
use Rattle.std.proofs.lemmas.Option.{none-some, same_Some}
use Rattle.hist_types.specs.Journal.{is_invoke}
use Rattle.hist_types.specs.Operations.{Operation}
use Rattle.hist_types.specs.Transactions.{Status, Ok, Fail, Info, Open, Transaction, Indexed, is_ok_status, is_fail_status, status_by, is_ok, is_failed, completion_in, transaction_by, transactions_from, transactions_of}
use Rattle.hist_types.proofs.Members.{In, in_append}
use Rattle.history_laws.proofs.Processes.{completion_in-next}
use Rattle.history_laws.proofs.ThinningTimes.{invocation_by}
use Rattle.txn_pairs.specs.Places.{is_open, is_open_status, has_process, open_place, completed, with_completed}
use Rattle.txn_pairs.proofs.Growth.{takes_invocation, takes_completion}
use Rattle.txn_pairs.proofs.Places.{with_completed-behind}
use Rattle.clean_order.specs.ByVersion.{IsAnother}
use Rattle.serial_points.specs.NextPoints.{IsOfEvent}

-- ---- transactions of events are of none that comes later

completes_within :
    (index n : ℕ) (event : Operation) (events : List Operation) (found : Option Indexed)
    → completion_in event.process (index + 1) events ≡ found
    → (transaction_by index event found).completion ≡ Some n
    → n < index + suc (length events)
completes_within index n event events None e completes = elim (none-some n completes) [ ]
completes_within index n event events (Some found) e completes =
    let ((before, after, split, others, own, at), ends) = (completion_in-next event.process (index + 1) events found).0 e in
    let same : found.index ≡ n = same_Some found.index n completes in
    let long : length events ≡ length before + suc (length after) = ap length split ∙ length-append before (found.event ∷ after) in
    omega (arith, at, same, long)

earlier_by :
    (invokes : Bool) (index n : ℕ) (event : Operation) (events : List Operation) (t : Transaction)
    → n ≡ index + suc (length events)
    → In t (if invokes then transaction_by index event (completion_in event.process (index + 1) events) ∷ transactions_from (index + 1) events else transactions_from (index + 1) events)
    → IsOfEvent n t
    → (In t (transactions_from (index + 1) events) → ⊥)
    → ⊥
earlier_by true index n event events t at (inl here) (inl invoked) further =
    let begun : index ≡ n = sym (invocation_by index event (completion_in event.process (index + 1) events)) ∙ ap (λ (x : Transaction). x.invocation) here ∙ invoked in
    omega (arith, at, begun)
earlier_by true index n event events t at (inl here) (inr completed) further =
    let within = completes_within index n event events (completion_in event.process (index + 1) events) refl (ap (λ (x : Transaction). x.completion) here ∙ completed) in
    omega (arith, at, within)
earlier_by true index n event events t at (inr i) of further = further i
earlier_by false index n event events t at i of further = further i

earlier_from :
    (index n : ℕ) (events : List Operation) (t : Transaction)
    → n ≡ index + length events
    → In t (transactions_from index events)
    → IsOfEvent n t
    → ⊥
earlier_from index n [] t at i of = i
earlier_from index n (event ∷ events) t at i of =
    earlier_by (is_invoke event.kind) index n event events t at i of
    (λ j. earlier_from (index + 1) n events t (omega (arith, at)) j of)

pub earlier : (events : List Operation) (t : Transaction) → In t (transactions_of events) → ¬ IsOfEvent (length events) t
earlier events t i of = earlier_from 0 (length events) events t (omega arith) i of

-- ---- one more event

pub invoked :
    (events : List Operation) (event : Operation)
    → is_invoke event.kind ≡ true
    → transactions_of (events ++ event ∷ []) ≡ transactions_of events ++ transaction_by (length events) event None ∷ []
invoked events event invokes =
    let ts : List Transaction = transactions_of events in
    sym (takes_invocation (length events) event ts (ts ++ transaction_by (length events) event None ∷ []) invokes refl events refl refl)

pub left_out : {X : Type 0} (p : X → Bool) (x : X) (xs : List X) → p x ≡ false → filter p (x ∷ xs) ≡ filter p xs
left_out p x xs e = ap (λ b. if b then x ∷ filter p xs else filter p xs) e

pub open_not_ok : (t : Transaction) → is_open t ≡ true → is_ok t ≡ false
open_not_ok t = by t.status
  where
    by : (s : Status) → is_open_status s ≡ true → is_ok_status s ≡ false
    by Ok e = elim (false≢true e) [ ]
    by Fail e = refl
    by Info e = refl
    by Open e = refl

pub open_not_failed : (t : Transaction) → is_open t ≡ true → is_failed t ≡ false
open_not_failed t = by t.status
  where
    by : (s : Status) → is_open_status s ≡ true → is_fail_status s ≡ false
    by Ok e = refl
    by Fail e = elim (false≢true e) [ ]
    by Info e = refl
    by Open e = refl

-- the event completes this transaction, and no other is changed
pub record Completes (index : ℕ) (event : Operation) (ts later : List Transaction) (x : Transaction) : Type 0 where
  pub there : In x ts
  pub unended : is_open x ≡ true
  pub changed : (u : Transaction) → In u later → (u ≡ completed x index event) ⊎ In u ts
  pub same_ok : is_ok_status (status_by event.kind) ≡ false → filter is_ok later ≡ filter is_ok ts

-- the event completes one, or changes none
abbrev pub CompletesOneAtMost : (index : ℕ) → Operation → (ts later : List Transaction) → Type 0
CompletesOneAtMost index event ts later =
    ((x : Transaction) × Completes index event ts later x) ⊎ (later ≡ ts)

completes_behind :
    (index : ℕ) (event : Operation) (t : Transaction) (ts later : List Transaction)
    → CompletesOneAtMost index event ts later
    → CompletesOneAtMost index event (t ∷ ts) (t ∷ later)
completes_behind index event t ts later (inl (x, c)) =
    inl (x, record { there = inr c.there; unended = c.unended; changed = changed; same_ok = λ e. ap (λ xs. if is_ok t then t ∷ xs else xs) (c.same_ok e) })
  where
    changed : (u : Transaction) → In u (t ∷ later) → (u ≡ completed x index event) ⊎ In u (t ∷ ts)
    changed u (inl here) = inr (inl here)
    changed u (inr i) = elim (c.changed u i) [ inl done ↦ inl done | inr j ↦ inr (inr j) ]
completes_behind index event t ts later (inr same) = inr (ap (λ xs. t ∷ xs) same)

completes_by :
    (has own : Bool) (process index : ℕ) (event : Operation) (t : Transaction) (ts : List Transaction)
    → ((t.process == process) && is_open t) ≡ own
    → CompletesOneAtMost index event ts (with_completed (open_place process ts) index event ts)
    → CompletesOneAtMost index event (t ∷ ts) (with_completed (if has then option_map suc (open_place process ts) else (if own then Some 0 else None)) index event (t ∷ ts))
completes_by true own process index event t ts is rest =
    subst (CompletesOneAtMost index event (t ∷ ts)) (sym (with_completed-behind (open_place process ts) index event t ts))
    (completes_behind index event t ts (with_completed (open_place process ts) index event ts) rest)
completes_by false true process index event t ts is rest = inl (t, record { there = inl refl; unended = (and_parts (t.process == process) (is_open t) is).1; changed = changed; same_ok = same_ok })
  where
    changed : (u : Transaction) → In u (completed t index event ∷ ts) → (u ≡ completed t index event) ⊎ In u (t ∷ ts)
    changed u (inl here) = inl (sym here)
    changed u (inr i) = inr (inr i)

    same_ok :
        is_ok_status (status_by event.kind) ≡ false
        → filter is_ok (completed t index event ∷ ts) ≡ filter is_ok (t ∷ ts)
    same_ok e = left_out is_ok (completed t index event) ts e ∙ sym (left_out is_ok t ts (open_not_ok t (and_parts (t.process == process) (is_open t) is).1))
completes_by false false process index event t ts is rest = inr refl

completes_one :
    (process index : ℕ) (event : Operation) (ts : List Transaction)
    → CompletesOneAtMost index event ts (with_completed (open_place process ts) index event ts)
completes_one process index event [] = inr refl
completes_one process index event (t ∷ ts) =
    completes_by (has_process process ts) ((t.process == process) && is_open t) process index event t ts refl (completes_one process index event ts)

pub completes :
    (events : List Operation) (event : Operation)
    → is_invoke event.kind ≡ false
    → CompletesOneAtMost (length events) event (transactions_of events) (transactions_of (events ++ event ∷ []))
completes events event ends =
    let ts : List Transaction = transactions_of events in
    subst (CompletesOneAtMost (length events) event ts)
    (takes_completion (length events) event ts (with_completed (open_place event.process ts) (length events) event ts) ends refl events refl refl)
    (completes_one event.process (length events) event ts)

-- ---- the others

-- all but one were there before
abbrev AllButOne : (ts later : List Transaction) → Type 0
AllButOne ts later = (one : Transaction) × ((u : Transaction) → In u later → (u ≡ one) ⊎ In u ts)

all_but_one :
    (events : List Operation) (event : Operation)
    → AllButOne (transactions_of events) (transactions_of (events ++ event ∷ []))
all_but_one events event = elim (cases_Bool (is_invoke event.kind)) [
  | inl invokes ↦ (
    new,
    λ u i. elim (in_append u ts (new ∷ []) (subst (In u) (invoked events event invokes) i)) [
      | inl j ↦ inr j
      | inr j ↦ elim j [ inl here ↦ inl (sym here) | inr none ↦ elim none [ ] ]
    ],
  )
  | inr ends ↦ elim (completes events event ends) [
    | inl (x, c) ↦ (completed x (length events) event, c.changed)
    | inr same ↦ (new, λ u i. inr (subst (In u) same i))
  ]
]
  where
    ts : List Transaction
    ts = transactions_of events

    new : Transaction
    new = transaction_by (length events) event None

pub others_stay :
    (events : List Operation) (event : Operation) (t u : Transaction)
    → In t (transactions_of (events ++ event ∷ []))
    → IsOfEvent (length events) t
    → In u (transactions_of (events ++ event ∷ []))
    → IsAnother t u
    → In u (transactions_of events)
others_stay events event t u i of j other =
    let (one, all) = all_but_one events event in
    elim (all u j) [
      | inl second ↦ elim (all t i) [
        | inl first ↦ elim (other (ap (λ (x : Transaction). x.invocation) (first ∙ sym second))) [ ]
        | inr there ↦ elim (earlier events t there of) [ ]
      ]
      | inr there ↦ there
    ]
