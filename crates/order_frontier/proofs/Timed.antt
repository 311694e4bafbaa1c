-- The transactions of events, in time.
use Rattle.std.proofs.Common.{◌≡◌, ◌⊎◌, inl, inr, ℕ, ◌+◌, ◌<◌, ◌≤◌, Bool, true, false, ◌==◌, if◌then◌else◌, Option, Some, None, List, [], ◌∷◌, ◌++◌, length, refl, ap, sym, subst, ◌∙◌, arith}
use Rattle.std.proofs.lemmas.Bool.{false≢true, eqb-false}
use Rattle.hist_types.proofs.Members.{In}
use Rattle.hist_types.specs.Operations.{Operation}
use Rattle.hist_types.specs.Journal.{is_invoke}
use Rattle.hist_types.specs.Transactions.{Transaction, Indexed, completion_in, is_ok_status, status_by, transaction_by, transactions_from, transactions_of}
use Rattle.hist_types.specs.declared.types.OpKind.{OpKind}
use Rattle.hist_types.specs.declared.types.OpKind.TheVariants as kinds
use Rattle.order_frontier.specs.declared.types.Completed.{Completed}
use Rattle.order_frontier.specs.Completions.{completed_of}
use Rattle.order_frontier.proofs.Seen.{done-parts, AreTimed}

-- ---- the transaction of one invocation

pub by-process : (index : ℕ) (e : Operation) (c : Option Indexed) → (transaction_by index e c).process ≡ e.process
by-process index e None = refl
by-process index e (Some x) = refl

pub by-invocation : (index : ℕ) (e : Operation) (c : Option Indexed) → (transaction_by index e c).invocation ≡ index
by-invocation index e None = refl
by-invocation index e (Some x) = refl

-- an event that completes a transaction by an ok
pub record IsOkBy (c : Option Indexed) (index number : ℕ) (d : Completed) : Type 0 where
  pub event : Operation
  pub found : c ≡ Some (record { index = d.completion; event = event })
  pub kind : event.kind ≡ kinds.Ok
  pub invocation : d.invocation ≡ index
  pub process : d.process ≡ number

ok_by_kind : (index : ℕ) (e : Operation) (x : Indexed) (d : Completed) (kind : OpKind) → x.event.kind ≡ kind
    → completed_of (transaction_by index e (Some x)) ≡ Some d → x.event.kind ≡ kinds.Ok
ok_by_kind index e x d kinds.Ok is h = is
ok_by_kind index e x d kinds.Invoke is h = cc
ok_by_kind index e x d kinds.Fail is h = cc
ok_by_kind index e x d kinds.Info is h = cc

pub ok-by : (index : ℕ) (e : Operation) (c : Option Indexed) (d : Completed) → completed_of (transaction_by index e c) ≡ Some d → IsOkBy c index e.process d
ok-by index e None d h = cc
ok-by index e (Some x) d h =
    let parts = done-parts (transaction_by index e (Some x)) d h in
    let at : x.index ≡ d.completion = cc in
    record {
      event = x.event;
      found = ap (λ n. Some (record { index = n; event = x.event })) at;
      kind = ok_by_kind index e x d x.event.kind refl h;
      invocation = sym parts.invocation;
      process = sym parts.process;
    }

pub ok-from : (index : ℕ) (e event : Operation) (completion : ℕ) → event.kind ≡ kinds.Ok
    → completed_of (transaction_by index e (Some (record { index = completion; event = event }))) ≡ Some (record { completion = completion; invocation = index; process = e.process })
ok-from index e event completion is =
    ap (λ kind. if is_ok_status (status_by kind) then Some (record { completion = completion; invocation = index; process = e.process }) else None) is

-- ---- the transactions of events

in_chosen : (b : Bool) (t u : Transaction) (ts : List Transaction) → In t (if b then u ∷ ts else ts) → ((b ≡ true) × (u ≡ t)) ⊎ In t ts
in_chosen true t u ts (inl e) = inl (refl, e)
in_chosen true t u ts (inr i) = inr i
in_chosen false t u ts i = inr i

pub in-first : (t : Transaction) (index : ℕ) (e : Operation) (es : List Operation) → In t (transactions_from index (e ∷ es))
    → ((is_invoke e.kind ≡ true) × (transaction_by index e (completion_in e.process (index + 1) es) ≡ t)) ⊎ In t (transactions_from (index + 1) es)
in-first t index e es i = in_chosen (is_invoke e.kind) t (transaction_by index e (completion_in e.process (index + 1) es)) (transactions_from (index + 1) es) i

in_later : (b : Bool) (t u : Transaction) (ts : List Transaction) → In t ts → In t (if b then u ∷ ts else ts)
in_later true t u ts i = inr i
in_later false t u ts i = i

pub in-behind : (t : Transaction) (index : ℕ) (e : Operation) (es : List Operation) → In t (transactions_from (index + 1) es) → In t (transactions_from index (e ∷ es))
in-behind t index e es i = in_later (is_invoke e.kind) t (transaction_by index e (completion_in e.process (index + 1) es)) (transactions_from (index + 1) es) i

pub in-head : (index : ℕ) (e : Operation) (es : List Operation) → is_invoke e.kind ≡ true → In (transaction_by index e (completion_in e.process (index + 1) es)) (transactions_from index (e ∷ es))
in-head index e es invokes =
    let t = transaction_by index e (completion_in e.process (index + 1) es) in
    subst (λ b. In t (if b then t ∷ transactions_from (index + 1) es else transactions_from (index + 1) es)) (sym invokes) (inl refl)

first_at : (t : Transaction) (index : ℕ) (e : Operation) (c : Option Indexed) → transaction_by index e c ≡ t → t.invocation ≡ index
first_at t index e c is = sym (ap (λ (t : Transaction). t.invocation) is) ∙ by-invocation index e c

first_of_process : (t : Transaction) (index : ℕ) (e : Operation) (c : Option Indexed) → transaction_by index e c ≡ t → t.process ≡ e.process
first_of_process t index e c is = sym (ap (λ (t : Transaction). t.process) is) ∙ by-process index e c

pub invoked-late : (t : Transaction) (index : ℕ) (es : List Operation) → In t (transactions_from index es) → index ≤ t.invocation
invoked-late t index [] i = elim i [ ]
invoked-late t index (e ∷ es) i = elim (in-first t index e es i) [
  | inl first ↦ (let same = first_at t index e (completion_in e.process (index + 1) es) first.1 in omega (arith, same))
  | inr later ↦ (let up = invoked-late t (index + 1) es later in omega (arith, up))
]

pub invoked-before : (t : Transaction) (index : ℕ) (es : List Operation) → In t (transactions_from index es) → t.invocation < index + length es
invoked-before t index [] i = elim i [ ]
invoked-before t index (e ∷ es) i = elim (in-first t index e es i) [
  | inl first ↦ (let same = first_at t index e (completion_in e.process (index + 1) es) first.1 in omega (arith, same))
  | inr later ↦ (let up = invoked-before t (index + 1) es later in omega (arith, up))
]

late_by : (process index : ℕ) (e : Operation) (es : List Operation) (x : Indexed) (own invokes : Bool)
    → (if own then (if invokes then None else Some (record { index = index; event = e })) else completion_in process (index + 1) es) ≡ Some x
    → (completion_in process (index + 1) es ≡ Some x → index + 1 ≤ x.index)
    → index ≤ x.index
late_by process index e es x true true h further = cc
late_by process index e es x true false h further = let same : index ≡ x.index = cc in omega (arith, same)
late_by process index e es x false invokes h further = let up = further h in omega (arith, up)

-- a completion comes no earlier than the events that it is found in
completion_late : (process index : ℕ) (es : List Operation) (x : Indexed) → completion_in process index es ≡ Some x → index ≤ x.index
completion_late process index [] x h = cc
completion_late process index (e ∷ es) x h = late_by process index e es x (e.process == process) (is_invoke e.kind) h (completion_late process (index + 1) es x)

behind_by : (u : Transaction) (process index : ℕ) (e : Operation) (es : List Operation) (x : Indexed)
    (own : Bool) → (e.process == process) ≡ own
    → (invokes : Bool) → is_invoke e.kind ≡ invokes
    → (if own then (if invokes then None else Some (record { index = index; event = e })) else completion_in process (index + 1) es) ≡ Some x
    → ((is_invoke e.kind ≡ true) × (transaction_by index e (completion_in e.process (index + 1) es) ≡ u)) ⊎ In u (transactions_from (index + 1) es)
    → u.process ≡ process
    → (completion_in process (index + 1) es ≡ Some x → In u (transactions_from (index + 1) es) → u.process ≡ process → x.index < u.invocation)
    → x.index < u.invocation
behind_by u process index e es x true own true kind h place same further = cc
behind_by u process index e es x true own false kind h (inl first) same further = absurd (false≢true (sym kind ∙ first.0))
behind_by u process index e es x true own false kind h (inr later) same further =
    let at : index ≡ x.index = cc in
    let up = invoked-late u (index + 1) es later in
    omega (arith, at, up)
behind_by u process index e es x false own invokes kind h (inl first) same further =
    absurd (eqb-false e.process process own (sym (first_of_process u index e (completion_in e.process (index + 1) es) first.1) ∙ same))
behind_by u process index e es x false own invokes kind h (inr later) same further = further h later same

-- the next transaction of a process comes behind the completion
next_behind : (u : Transaction) (process index : ℕ) (es : List Operation) (x : Indexed) → completion_in process index es ≡ Some x
    → In u (transactions_from index es) → u.process ≡ process → x.index < u.invocation
next_behind u process index [] x h i same = elim i [ ]
next_behind u process index (e ∷ es) x h i same =
    behind_by u process index e es x (e.process == process) refl (is_invoke e.kind) refl h (in-first u index e es i) same (next_behind u process (index + 1) es x)

-- ---- in time

spans_from : (t : Transaction) (d : Completed) (index : ℕ) (es : List Operation) → In t (transactions_from index es) → completed_of t ≡ Some d → d.invocation < d.completion
spans_from t d index [] i h = elim i [ ]
spans_from t d index (e ∷ es) i h = elim (in-first t index e es i) [
  | inl first ↦
      let ok = ok-by index e (completion_in e.process (index + 1) es) d (ap completed_of first.1 ∙ h) in
      let up = completion_late e.process (index + 1) es (record { index = d.completion; event = ok.event }) ok.found in
      let at = ok.invocation in
      omega (arith, up, at)
  | inr later ↦ spans_from t d (index + 1) es later h
]

sequential_from : (t u : Transaction) (d : Completed) (index : ℕ) (es : List Operation) → In t (transactions_from index es) → In u (transactions_from index es)
    → t.process ≡ u.process → t.invocation < u.invocation → completed_of t ≡ Some d → d.completion < u.invocation
sequential_from t u d index [] i j same earlier h = elim i [ ]
sequential_from t u d index (e ∷ es) i j same earlier h = elim (in-first u index e es j) [
  | inl last ↦ elim (in-first t index e es i) [
    | inl first ↦
        let at = first_at t index e (completion_in e.process (index + 1) es) first.1 in
        let at' = first_at u index e (completion_in e.process (index + 1) es) last.1 in
        absurd (omega (arith, at, at', earlier))
    | inr later ↦
        let at = first_at u index e (completion_in e.process (index + 1) es) last.1 in
        let up = invoked-late t (index + 1) es later in
        absurd (omega (arith, at, up, earlier))
  ]
  | inr last ↦ elim (in-first t index e es i) [
    | inl first ↦
        let ok = ok-by index e (completion_in e.process (index + 1) es) d (ap completed_of first.1 ∙ h) in
        let own = first_of_process t index e (completion_in e.process (index + 1) es) first.1 in
        next_behind u e.process (index + 1) es (record { index = d.completion; event = ok.event }) ok.found last (sym same ∙ own)
    | inr later ↦ sequential_from t u d (index + 1) es later last same earlier h
  ]
]

one_from : (t u : Transaction) (index : ℕ) (es : List Operation) → In t (transactions_from index es) → In u (transactions_from index es) → t.invocation ≡ u.invocation → t ≡ u
one_from t u index [] i j same = elim i [ ]
one_from t u index (e ∷ es) i j same = elim (in-first t index e es i) [
  | inl first ↦ elim (in-first u index e es j) [
    | inl last ↦ sym first.1 ∙ last.1
    | inr later ↦
        let at = first_at t index e (completion_in e.process (index + 1) es) first.1 in
        let up = invoked-late u (index + 1) es later in
        absurd (omega (arith, at, up, same))
  ]
  | inr first ↦ elim (in-first u index e es j) [
    | inl last ↦
        let at = first_at u index e (completion_in e.process (index + 1) es) last.1 in
        let up = invoked-late t (index + 1) es first in
        absurd (omega (arith, at, up, same))
    | inr later ↦ one_from t u (index + 1) es first later same
  ]
]

pub timed : (es : List Operation) → AreTimed (transactions_of es)
timed es = record {
  spans = λ t d i h. spans_from t d 0 es i h;
  sequential = λ t u d i j same earlier h. sequential_from t u d 0 es i j same earlier h;
  one = λ t u i j same. one_from t u 0 es i j same;
}

-- the last invocation's transaction is open
pub in-last : (index : ℕ) (es : List Operation) (e : Operation) → is_invoke e.kind ≡ true → In (transaction_by (index + length es) e None) (transactions_from index (es ++ e ∷ []))
in-last index [] e invokes =
    subst (λ n. In (transaction_by n e None) (transactions_from index (e ∷ []))) (omega arith) (in-head index e [] invokes)
in-last index (x ∷ es) e invokes =
    in-behind (transaction_by (index + length (x ∷ es)) e None) index x (es ++ e ∷ [])
    (subst (λ n. In (transaction_by n e None) (transactions_from (index + 1) (es ++ e ∷ []))) (omega arith) (in-last (index + 1) es e invokes))
