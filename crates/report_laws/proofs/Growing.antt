-- What becomes of each transaction as more events come: it stays, and if it was open it may complete.
use Rattle.std.proofs.Common.{◌≡◌, ◌⊎◌, inl, inr, ℕ, ◌+◌, List, [], ◌∷◌, ◌++◌, Bool, true, false, if◌then◌else◌, Option, Some, None, append_assoc, refl, sym, ◌∙◌, ap, subst}
use Rattle.std.proofs.lemmas.Bool.{false≢true}
use Rattle.hist_types.specs.Journal.{writes_of, is_invoke, KeepsRules}
use Rattle.hist_types.specs.Operations.{Operation}
use Rattle.hist_types.specs.Transactions.{Open, Transaction, Indexed, completion_in, is_ok_status, is_fail_status, transaction_by, transactions_from, transactions_of, is_ok, is_failed}
use Rattle.hist_types.proofs.Members.{In}
use Rattle.history_laws.proofs.Processes.{completion_in-next}
use Rattle.history_laws.proofs.WrittenOnce.{same_writes}

-- what a transaction is once more events have come: the same, unless it was open, and even then its writes stay
pub record Grows (t later : Transaction) : Type 0 where
  pub process : t.process ≡ later.process
  pub invocation : t.invocation ≡ later.invocation
  pub writes : writes_of t.mops ≡ writes_of later.mops
  pub same : (t.status ≡ Open) ⊎ (t ≡ later)

-- it grows into one of these
abbrev pub GrowsInto : List Transaction → Transaction → Type 0
GrowsInto laters t = (later : Transaction) × In later laters × Grows t later

-- each of the first ones grows into one of the later ones
abbrev pub AllGrow : (ts laters : List Transaction) → Type 0
AllGrow ts laters = (t : Transaction) → In t ts → GrowsInto laters t

-- ---- an ok or failed one stays the same

pub ok_stays : (t later : Transaction) → Grows t later → is_ok t ≡ true → t ≡ later
ok_stays t later g ok = elim g.same [
  | inl unended ↦ elim (false≢true (subst (λ s. is_ok_status s ≡ true) unended ok)) [ ]
  | inr same ↦ same
]

pub failed_stays : (t later : Transaction) → Grows t later → is_failed t ≡ true → t ≡ later
failed_stays t later g failed = elim g.same [
  | inl unended ↦ elim (false≢true (subst (λ s. is_fail_status s ≡ true) unended failed)) [ ]
  | inr same ↦ same
]

pub ok_is_there : (ts laters : List Transaction) → AllGrow ts laters → (t : Transaction) → In t ts → is_ok t ≡ true → In t laters
ok_is_there ts laters grow t i ok =
    let (later, j, g) = grow t i in
    subst (λ u. In u laters) (sym (ok_stays t later g ok)) j

pub failed_is_there : (ts laters : List Transaction) → AllGrow ts laters → (t : Transaction) → In t ts → is_failed t ≡ true → In t laters
failed_is_there ts laters grow t i failed =
    let (later, j, g) = grow t i in
    subst (λ u. In u laters) (sym (failed_stays t later g failed)) j

-- ---- more events

pub completion_stays :
    (process index : ℕ) (events more : List Operation) (found : Indexed)
    → completion_in process index events ≡ Some found
    → completion_in process index (events ++ more) ≡ Some found
completion_stays process index events more found e =
    let ((before, after, split, others, own, at), completes) = (completion_in-next process index events found).0 e in
    (completion_in-next process index (events ++ more) found).1
    ((before, after ++ more, ap (λ es. es ++ more) split ∙ append_assoc before (found.event ∷ after) more, others, own, at), completes)

one_grows :
    (before events more : List Operation) (index : ℕ) (event : Operation) (was : Option Indexed)
    → KeepsRules (before ++ event ∷ (events ++ more))
    → is_invoke event.kind ≡ true
    → completion_in event.process (index + 1) events ≡ was
    → Grows (transaction_by index event was) (transaction_by index event (completion_in event.process (index + 1) (events ++ more)))
one_grows before events more index event None kept invokes e = open_grows (completion_in event.process (index + 1) (events ++ more)) refl
  where
    open_grows :
        (now : Option Indexed)
        → completion_in event.process (index + 1) (events ++ more) ≡ now
        → Grows (transaction_by index event None) (transaction_by index event now)
    open_grows None e = record { process = refl; invocation = refl; writes = refl; same = inl refl }
    open_grows (Some found) e =
        record { process = refl; invocation = refl; writes = sym (same_writes before (events ++ more) index event (Some found) kept invokes e); same = inl refl }
one_grows before events more index event (Some found) kept invokes e =
    subst (λ now. Grows (transaction_by index event (Some found)) (transaction_by index event now)) (sym (completion_stays event.process (index + 1) events more found e))
    (record { process = refl; invocation = refl; writes = refl; same = inr refl })

grow_by :
    (invokes : Bool) (before events more : List Operation) (index : ℕ) (event : Operation) (t : Transaction)
    → KeepsRules (before ++ event ∷ (events ++ more))
    → is_invoke event.kind ≡ invokes
    → In t (if invokes then transaction_by index event (completion_in event.process (index + 1) events) ∷ transactions_from (index + 1) events else transactions_from (index + 1) events)
    → (In t (transactions_from (index + 1) events) → GrowsInto (transactions_from (index + 1) (events ++ more)) t)
    → GrowsInto (if invokes then transaction_by index event (completion_in event.process (index + 1) (events ++ more)) ∷ transactions_from (index + 1) (events ++ more) else transactions_from (index + 1) (events ++ more)) t
grow_by true before events more index event t kept invokes (inl here) further =
    let later : Transaction = transaction_by index event (completion_in event.process (index + 1) (events ++ more)) in
    (later, inl refl, subst (λ u. Grows u later) here (one_grows before events more index event (completion_in event.process (index + 1) events) kept invokes refl))
grow_by true before events more index event t kept invokes (inr i) further = let (later, j, g) = further i in (later, inr j, g)
grow_by false before events more index event t kept invokes i further = further i

grow_from : (before events more : List Operation) (index : ℕ) → KeepsRules (before ++ (events ++ more)) → AllGrow (transactions_from index events) (transactions_from index (events ++ more))
grow_from before [] more index kept t i = elim i [ ]
grow_from before (event ∷ events) more index kept t i =
    grow_by (is_invoke event.kind) before events more index event t kept refl i
    (grow_from (before ++ event ∷ []) events more (index + 1) (subst KeepsRules (sym (append_assoc before (event ∷ []) (events ++ more))) kept) t)

pub all_grow : (events more : List Operation) → KeepsRules (events ++ more) → AllGrow (transactions_of events) (transactions_of (events ++ more))
all_grow events more kept = grow_from [] events more 0 kept
