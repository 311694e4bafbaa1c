-- What the journal takes as the completion of an open transaction keeps its keys and its writes.
use Rattle.std.proofs.Common.{◌≡◌, inl, inr, ℕ, ◌+◌, List, [], ◌∷◌, length, map, slice_get, Bool, true, false, ◌==◌, nat_le, cond, Option, Some, None, option_map, option_and_then, refl, sym, ap, ◌∙◌, subst}
use Rattle.std.specs.Option.{option_or}
use Rattle.std.specs.Cmp.Lexicographic.{pointwise}
use Rattle.std.proofs.lemmas.Bool.{and_parts, eq-eqb, or_parts}
use Rattle.std.proofs.lemmas.Option.{same_Some}
use Rattle.hist_types.proofs.Equality.{atom_eq-same, same_write}
use Rattle.hist_types.specs.Atoms.{atom_eq}
use Rattle.hist_types.specs.Journal.{Write, writes_of, is_invoke, last_event, open_invocation, same_mop, invocation_refusal, completion_refusal, broken, KeepsRulesAfter}
use Rattle.hist_types.specs.Operations.{Mop, read, write, Operation}
use Rattle.hist_types.specs.Transactions.{Transaction, Open, completion_in, status_by, mops_by, transaction_by, transactions_from, transactions_of}
use Rattle.hist_types.specs.declared.limits.TheConstants.{MAX_EVENTS}
use Rattle.hist_types.specs.declared.types.OpKind.{OpKind}
use Rattle.hist_types.specs.declared.types.OpKind.TheVariants as kinds
use Rattle.hist_types.specs.declared.types.Refusal.{Refusal}
use Rattle.hist_types.specs.declared.types.Refusal.TheVariants.{Mismatch, TooManyEvents}
use Rattle.op_view.specs.Mops.{key_of}
use Rattle.txn_pairs.specs.Completions.{Completes}
use Rattle.txn_pairs.specs.Growth.{CompletesOne}
use Rattle.txn_pairs.specs.Places.{is_open, has_process, open_place, completed, completed_at}
use Rattle.txn_pairs.proofs.Growth.{is_seen, completion-unseen, process_by, closed-seen}
use Rattle.txn_pairs.proofs.Places.{open_place-front, open_place-there, completed_at-set}

-- ---- a list of micro-operations that repeats another

-- the keys and the writes of the later list are those of the first
record Repeats (ms later : List Mop) : Type 0 where
  keys : map key_of later ≡ map key_of ms
  writes : writes_of later ≡ writes_of ms

repeats_mop :
    (m n : Mop) (ms later : List Mop) → same_mop m n ≡ true → Repeats ms later → Repeats (m ∷ ms) (n ∷ later)
repeats_mop (read k v) (read l w) ms later same rest =
    record { keys = ap (λ a. a ∷ map key_of later) (sym (atom_eq-same k l same)) ∙ ap (λ ks. k ∷ ks) rest.keys; writes = rest.writes }
repeats_mop (write k v) (write l w) ms later same rest =
    let parts = and_parts (atom_eq k l) (atom_eq v w) same in
    let first : Write = record { key = k; value = v } in
    record {
      keys = ap (λ a. a ∷ map key_of later) (sym (atom_eq-same k l parts.0)) ∙ ap (λ ks. k ∷ ks) rest.keys;
      writes =
          ap (λ u. u ∷ writes_of later)
          (same_write (record { key = l; value = w }) first (sym (atom_eq-same k l parts.0)) (sym (atom_eq-same v w parts.1)))
          ∙ ap (λ ws. first ∷ ws) rest.writes;
    }
repeats_mop (read k v) (write l w) ms later same rest = cc
repeats_mop (write k v) (read l w) ms later same rest = cc

repeats_each : (ms later : List Mop) → pointwise same_mop ms later ≡ true → Repeats ms later
repeats_each [] [] same = record { keys = refl; writes = refl }
repeats_each [] (n ∷ later) same = cc
repeats_each (m ∷ ms) [] same = cc
repeats_each (m ∷ ms) (n ∷ later) same =
    let parts = and_parts (same_mop m n) (pointwise same_mop ms later) same in
    repeats_mop m n ms later parts.0 (repeats_each ms later parts.1)

-- ---- the last event of a process is the invocation of its open transaction

-- the process's last event is an invocation, of a transaction with these micro-operations
abbrev IsInvokedLast : ℕ → List Operation → List Mop → Type 0
IsInvokedLast p es mops =
    (x : Operation) × (last_event p es ≡ Some x) × (is_invoke x.kind ≡ true) × (x.mops ≡ mops)

last_event-unseen : (p : ℕ) (es : List Operation) → is_seen p es ≡ false → last_event p es ≡ None
last_event-unseen p [] unseen = refl
last_event-unseen p (e ∷ es) unseen =
    let parts = or_parts (e.process == p) (is_seen p es) unseen in
    ap (λ o. option_or o (cond (e.process == p) (Some e) None)) (last_event-unseen p es parts.1)
    ∙ ap (λ b. cond b (Some e) None) parts.0

invoked_behind :
    (p : ℕ) (e : Operation) (es : List Operation) (mops : List Mop) → IsInvokedLast p es mops
    → IsInvokedLast p (e ∷ es) mops
invoked_behind p e es mops (x, last, invokes, is) =
    (x, ap (λ o. option_or o (cond (e.process == p) (Some e) None)) last, invokes, is)

-- The first event's transaction is open, and no other of its process comes after it.
invoked_first :
    (i : ℕ) (e : Operation) (es : List Operation) (seen : Bool) → is_seen e.process es ≡ seen
    → is_invoke e.kind ≡ true → has_process e.process (transactions_from (i + 1) es) ≡ false
    → is_open (transaction_by i e (completion_in e.process (i + 1) es)) ≡ true
    → IsInvokedLast e.process (e ∷ es) (transaction_by i e (completion_in e.process (i + 1) es)).mops
invoked_first i e es true some invokes none unended =
    let closed = closed-seen i (i + 1) e.process e es some none in cc
invoked_first i e es false unseen invokes none unended = (
  e,
  ap (λ o. option_or o (cond (e.process == e.process) (Some e) None)) (last_event-unseen e.process es unseen)
      ∙ ap (λ b. cond b (Some e) None) (eq-eqb e.process e.process refl),
  invokes,
  sym (ap (λ c. (transaction_by i e c).mops) (completion-unseen e.process (i + 1) es unseen)),
)

open_invoked_by :
    (invokes : Bool) (i p k : ℕ) (e : Operation) (es : List Operation) (t : Transaction) → is_invoke e.kind ≡ invokes
    → ((j : ℕ) → open_place p (transactions_from (i + 1) es) ≡ Some j
    → slice_get (transactions_from (i + 1) es) j ≡ Some t → IsInvokedLast p es t.mops)
    → open_place p (cond invokes (transaction_by i e (completion_in e.process (i + 1) es) ∷ transactions_from (i + 1) es) (transactions_from (i + 1) es)) ≡ Some k
    → slice_get (cond invokes (transaction_by i e (completion_in e.process (i + 1) es) ∷ transactions_from (i + 1) es) (transactions_from (i + 1) es)) k ≡ Some t
    → IsInvokedLast p (e ∷ es) t.mops
open_invoked_by false i p k e es t invokes behind at there = invoked_behind p e es t.mops (behind k at there)
open_invoked_by true i p k e es t invokes behind at there =
    let first = transaction_by i e (completion_in e.process (i + 1) es) in
    let ts = transactions_from (i + 1) es in
    elim (open_place-front p first ts k at) [
      | inl later ↦
          invoked_behind p e es t.mops (behind later.0 later.1 (ap (slice_get (first ∷ ts)) (sym later.2) ∙ there))
      | inr here ↦
          let own : e.process ≡ p = sym (process_by i e (completion_in e.process (i + 1) es)) ∙ here.1 in
          let is : first ≡ t = same_Some first t (ap (slice_get (first ∷ ts)) (sym here.3) ∙ there) in
          subst (λ q. IsInvokedLast q (e ∷ es) t.mops) own
          (subst (λ u. IsInvokedLast e.process (e ∷ es) u.mops) is
          (invoked_first i e es (is_seen e.process es) refl invokes (ap (λ q. has_process q ts) own ∙ here.0) here.2))
    ]

open_invoked :
    (i p k : ℕ) (es : List Operation) (t : Transaction) → open_place p (transactions_from i es) ≡ Some k
    → slice_get (transactions_from i es) k ≡ Some t → IsInvokedLast p es t.mops
open_invoked i p k [] t at there = cc
open_invoked i p k (e ∷ es) t at there =
    open_invoked_by (is_invoke e.kind) i p k e es t refl (λ j. open_invoked (i + 1) p j es t) at there

-- ---- a completion that the journal takes

not_first : (test : Bool) (refusal : Refusal) (rest : Option Refusal) → cond test (Some refusal) rest ≡ None → rest ≡ None
not_first true refusal rest none = cc
not_first false refusal rest none = none

none_broken :
    (refusal : Option Refusal) (n : ℕ) → option_or {T = Refusal × ℕ} (option_map (λ r. (r, n)) refusal) None ≡ None → refusal ≡ None
none_broken None n none = refl
none_broken (Some refusal) n none = cc

passed : (test : Bool) (refusal : Refusal) → cond test None (Some refusal) ≡ None → test ≡ true
passed true refusal none = refl
passed false refusal none = cc

repeats_by :
    (kind : OpKind) (x : Operation) (ms later : List Mop) → completion_refusal kind later (Some x) ≡ None
    → x.mops ≡ ms → Repeats ms (mops_by (status_by kind) ms later)
repeats_by kinds.Invoke x ms later taken is = record { keys = refl; writes = refl }
repeats_by kinds.Ok x ms later taken is =
    repeats_each ms later (passed (pointwise same_mop ms later) Mismatch (subst (λ xs. cond (pointwise same_mop xs later) None (Some Mismatch) ≡ None) is taken))
repeats_by kinds.Fail x ms later taken is = record { keys = refl; writes = refl }
repeats_by kinds.Info x ms later taken is = record { keys = refl; writes = refl }

-- The journal takes the event after those that the transactions are of.
completes_open :
    (events : List Operation) (e : Operation) (index place : ℕ) (t : Transaction) → is_invoke e.kind ≡ false
    → open_place e.process (transactions_of events) ≡ Some place
    → slice_get (transactions_of events) place ≡ Some t → t.status ≡ Open → KeepsRulesAfter events (e ∷ [])
    → Completes t (completed t index e)
completes_open events e index place t completes at there unended kept =
    let (x, last, invokes, is) = open_invoked 0 e.process place events t at there in
    let opened : open_invocation e.process events ≡ Some x =
    ap (option_and_then (λ (event : Operation). cond (is_invoke event.kind) (Some event) None)) last
    ∙ ap (λ b. cond b (Some x) None) invokes in
    let judged = not_first (nat_le MAX_EVENTS (length events)) TooManyEvents
    (cond (is_invoke e.kind) (invocation_refusal events e) (completion_refusal e.kind e.mops (open_invocation e.process events)))
    (none_broken (broken events e) (length events) kept) in
    let taken : completion_refusal e.kind e.mops (Some x) ≡ None =
    ap (completion_refusal e.kind e.mops) (sym opened)
    ∙ ap (λ b. cond b (invocation_refusal events e) (completion_refusal e.kind e.mops (open_invocation e.process events))) (sym completes)
    ∙ judged in
    let repeats = repeats_by e.kind x t.mops e.mops taken is in
    record { unended = unended; process = refl; invocation = refl; keys = repeats.keys; writes = repeats.writes }

-- The transaction at the place of its process's open one is completed.
pub completes_one :
    (index place : ℕ) (e : Operation) (before after : List Transaction) → is_invoke e.kind ≡ false
    → Some place ≡ open_place e.process before → after ≡ completed_at place index e before
    → CompletesOne index e place before after
completes_one index place e before after completes at listed =
    let (was, there, own, unended) = open_place-there e.process before place (sym at) in
    record {
      was = was;
      there = there;
      process = own;
      unended = unended;
      listed = listed ∙ completed_at-set before place index e was there;
      repeats = λ events of_events kept.
          completes_open events e index place was completes
          (ap (open_place e.process) (sym of_events) ∙ sym at) (ap (λ ts. slice_get ts place) (sym of_events) ∙ there)
          unended kept;
    }
