-- What becomes of the pairs of versions that a process orders, once more events have come: they stay. When a process invokes a
-- transaction, each one that it invoked before has ended, or never will, so none of these changes any more.
use Rattle.std.proofs.Common.{◌≡◌, inl, inr, ℕ, ◌+◌, List, [], ◌∷◌, ◌++◌, Bool, true, false, ◌&&◌, ◌==◌, if◌then◌else◌, Option, Some, None, map, Contains, refl, sym, ◌∙◌, ap, subst}
use Rattle.std.proofs.lemmas.Bool.{false≢true, cases_Bool, eqb-true, eqb-false}
use Rattle.hist_types.specs.Journal.{is_invoke}
use Rattle.hist_types.specs.Operations.{Operation}
use Rattle.hist_types.specs.Transactions.{Transaction, Indexed, Version, completion_in, transaction_by, transactions_from, transactions_of, is_ok}
use Rattle.hist_types.specs.Versions.{VersionPair, version_in, seen_by, last_of, process_pairs}
use Rattle.hist_types.specs.declared.types.KeyOrder.{KeyOrder}
use Rattle.hist_types.specs.declared.types.KeyOrder.TheVariants.{Basic, Sequential}
use Rattle.hist_types.proofs.Members.{In, in_from_Contains, in_back}
use Rattle.history_laws.proofs.ProcessPairs.{process_pairs-steps}
use Rattle.report_laws.proofs.Growing.{completion_stays}

process_by : (index : ℕ) (event : Operation) (found : Option Indexed) → (transaction_by index event found).process ≡ event.process
process_by index event None = refl
process_by index event (Some found) = refl

-- ---- what has ended

settled_by :
    (same invokes : Bool) (process index : ℕ) (event : Operation) (events more : List Operation) (u : Transaction) (own : Option Indexed)
    → (event.process == process) ≡ same
    → In u (if invokes then transaction_by index event (completion_in event.process (index + 1) events) ∷ transactions_from (index + 1) events else transactions_from (index + 1) events)
    → u.process ≡ process
    → (In u (transactions_from (index + 1) events) → completion_in process (index + 1) (events ++ more) ≡ completion_in process (index + 1) events)
    → (if same then own else completion_in process (index + 1) (events ++ more)) ≡ (if same then own else completion_in process (index + 1) events)
settled_by true invokes process index event events more u own e i by further = refl
settled_by false true process index event events more u own e (inl is) by further =
    let its : event.process ≡ process =
    sym (process_by index event (completion_in event.process (index + 1) events)) ∙ (ap (λ (x : Transaction). x.process) is ∙ by) in
    elim (eqb-false event.process process e its) [ ]
settled_by false true process index event events more u own e (inr i) by further = further i
settled_by false false process index event events more u own e i by further = further i

-- once the process has invoked another transaction, it is settled how the one before ended
settled :
    (process index : ℕ) (events more : List Operation) (u : Transaction)
    → In u (transactions_from index events)
    → u.process ≡ process
    → completion_in process index (events ++ more) ≡ completion_in process index events
settled process index [] more u i by = elim i [ ]
settled process index (event ∷ events) more u i by =
    settled_by (event.process == process) (is_invoke event.kind) process index event events more u (if is_invoke event.kind then None else Some (record { index = index; event = event })) refl i by
    (λ j. settled process (index + 1) events more u j by)

ok_settled :
    (index : ℕ) (event : Operation) (events more : List Operation) (found : Option Indexed)
    → completion_in event.process (index + 1) events ≡ found
    → is_ok (transaction_by index event found) ≡ true
    → completion_in event.process (index + 1) (events ++ more) ≡ found
ok_settled index event events more None e ok = elim (false≢true ok) [ ]
ok_settled index event events more (Some found) e ok = completion_stays event.process (index + 1) events more found e

-- ---- what the process saw

abbrev own_of : ℕ → Transaction → List Version
own_of process t = if is_ok t && t.process == process then map version_in t.mops else []

none_of_another : (process : ℕ) (t : Transaction) → (t.process == process) ≡ false → own_of process t ≡ []
none_of_another process t other = ap (λ b. if b then map version_in t.mops else []) (off (is_ok t) (t.process == process) other)
  where
    off : (a b : Bool) → b ≡ false → (a && b) ≡ false
    off true b e = e
    off false b e = refl

-- the transactions have the one among them, after some by which its process saw as much as by these
abbrev StaysAfter : List Transaction → List Transaction → Transaction → Type 0
StaysAfter laters earlier u =
    (before : List Transaction)
    × (rest : List Transaction)
    × (laters ≡ before ++ u ∷ rest)
    × (seen_by u.process earlier ≡ seen_by u.process before)

stays_by :
    (invokes : Bool) (index : ℕ) (event : Operation) (events more : List Operation) (earlier : List Transaction) (u : Transaction) (rest : List Transaction)
    → is_ok u ≡ true
    → (if invokes then transaction_by index event (completion_in event.process (index + 1) events) ∷ transactions_from (index + 1) events else transactions_from (index + 1) events) ≡ earlier ++ u ∷ rest
    → ((before : List Transaction) → transactions_from (index + 1) events ≡ before ++ u ∷ rest → StaysAfter (transactions_from (index + 1) (events ++ more)) before u)
    → StaysAfter (if invokes then transaction_by index event (completion_in event.process (index + 1) (events ++ more)) ∷ transactions_from (index + 1) (events ++ more) else transactions_from (index + 1) (events ++ more)) earlier u
stays_by false index event events more earlier u rest ok is further = further earlier is
stays_by true index event events more [] u rest ok is further =
    let was : Option Indexed = completion_in event.process (index + 1) events in
    let first : transaction_by index event was ≡ u = cc in
    let settles = ok_settled index event events more was refl (subst (λ x. is_ok x ≡ true) (sym first) ok) in
    let laters : List Transaction = transactions_from (index + 1) (events ++ more) in
    ([], laters, ap (λ found. transaction_by index event found ∷ laters) settles ∙ ap (λ x. x ∷ laters) first, refl)
stays_by true index event events more (t ∷ earlier) u rest ok is further =
    let was : Option Indexed = completion_in event.process (index + 1) events in
    let now : Option Indexed = completion_in event.process (index + 1) (events ++ more) in
    let later : Transaction = transaction_by index event now in
    let first : transaction_by index event was ≡ t = cc in
    let others : transactions_from (index + 1) events ≡ earlier ++ u ∷ rest = cc in
    let (before, after, split, seen) = further earlier others in
    let among : In u (transactions_from (index + 1) events) = subst (In u) (sym others) (in_back u earlier (u ∷ rest) (inl refl)) in
    let own : own_of u.process (transaction_by index event was) ≡ own_of u.process later =
    elim (cases_Bool (event.process == u.process)) [
      | inl same ↦
          ap (λ found. own_of u.process (transaction_by index event found))
          (sym (settled event.process (index + 1) events more u among (sym (eqb-true event.process u.process same))))
      | inr other ↦
          none_of_another u.process (transaction_by index event was) (ap (λ n. n == u.process) (process_by index event was) ∙ other)
          ∙ sym (none_of_another u.process later (ap (λ n. n == u.process) (process_by index event now) ∙ other))
    ] in (
      later ∷ before,
      after,
      ap (λ xs. later ∷ xs) split,
      ap (λ x. own_of u.process x ++ seen_by u.process earlier) (sym first)
          ∙ (ap (λ vs. vs ++ seen_by u.process earlier) own ∙ ap (λ vs. own_of u.process later ++ vs) seen),
    )

stays_after :
    (index : ℕ) (events more : List Operation) (earlier : List Transaction) (u : Transaction) (rest : List Transaction)
    → is_ok u ≡ true
    → transactions_from index events ≡ earlier ++ u ∷ rest
    → StaysAfter (transactions_from index (events ++ more)) earlier u
stays_after index [] more earlier u rest ok is = elim (subst (In u) (sym is) (in_back u earlier (u ∷ rest) (inl refl))) [ ]
stays_after index (event ∷ events) more earlier u rest ok is =
    stays_by (is_invoke event.kind) index event events more earlier u rest ok is
    (λ before split. stays_after (index + 1) events more before u rest ok split)

-- ---- the pairs

-- the pairs that a process orders by the first ones are among those that it orders by the later ones
abbrev pub ProcessPairsStay : (keys : KeyOrder) (ts laters : List Transaction) → Type 0
ProcessPairsStay keys ts laters = (p : VersionPair) → Contains (process_pairs keys ts) p → Contains (process_pairs keys laters) p

pub process_pairs_stay : (keys : KeyOrder) (events more : List Operation) → ProcessPairsStay keys (transactions_of events) (transactions_of (events ++ more))
process_pairs_stay Basic events more p c = elim (in_from_Contains p (process_pairs Basic (transactions_of events)) c) [ ]
process_pairs_stay Sequential events more p c =
    let (earlier, u, rest, is, ok, met, last, step) = (process_pairs-steps (transactions_of events) p).0 c in
    let (before, after, split, seen) = stays_after 0 events more earlier u rest ok is in
    (process_pairs-steps (transactions_of (events ++ more)) p).1
    (before, u, after, split, ok, met, subst (λ vs. last_of p.later.key vs ≡ Some p.earlier) seen last, step)
