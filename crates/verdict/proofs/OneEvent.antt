-- What an event makes of the transaction that it begins or completes, and of what is kept.
use Rattle.std.proofs.Common.{◌≡◌, ◌⊎◌, inl, inr, ℕ, List, [], ◌∷◌, ◌++◌, length, set, false, Option, Some, None, refl, sym, ◌∙◌, ap, subst}
use Rattle.std.specs.Prelude.{slice_get, Contains, IsTrue, IfSome}
use Rattle.std.proofs.lemmas.Bool.{cases_Bool, MatchBool-at_true, MatchBool-at_false}
use Rattle.std.proofs.lemmas.Option.{none-some, same_Some}
use Rattle.hist_types.specs.Journal.{is_invoke, KeepsRulesAfter}
use Rattle.hist_types.specs.Operations.{Operation}
use Rattle.hist_types.specs.Transactions.{Transaction, Status, Open, Ok, is_ok_status, status_by, transaction_by, transactions_of}
use Rattle.hist_types.specs.declared.types.OpKind.{OpKind}
use Rattle.hist_types.specs.declared.types.OpKind.TheVariants as kinds
use Rattle.hist_types.proofs.Members.{Contains_from_in}
use Rattle.history_laws.proofs.Blocks.{kept_by_both}
use Rattle.dep_edges.proofs.Writers.{in_at}
use Rattle.key_versions.specs.Kept.{KeptVersions, AreKept, KeepNumbers, StayBeside}
use Rattle.order_frontier.specs.Thinnings.{IsBegunBy, IsCompletedBy}
use Rattle.serial_points.specs.KeptPoints.{KeptPoints, HasPoints}
use Rattle.serial_points.proofs.Changed.{begins_or_completes, changed_by_begin, changed_by_end}
use Rattle.txn_pairs.specs.Completions.{Completes}
use Rattle.txn_pairs.specs.Growth.{BeginsOne, CompletesOne, IsChange}
use Rattle.txn_pairs.specs.Places.{completed}
use Rattle.txn_pairs.specs.Statuses.{status_of}
use Rattle.txn_pairs.specs.declared.types.Status.{Status as CodeStatus}
use Rattle.txn_pairs.specs.declared.types.Status.TheVariants as codes
use Rattle.verdict.specs.Analysed.{AwaitsEvent, ChangesOne}

-- where no transaction is named, none changes
pub stays_where_none :
    (index : ℕ) (event : Operation) (before after : List Transaction)
    → IsChange index event None before after
    → after ≡ before
stays_where_none index event before after change =
    elim (cases_Bool (is_invoke event.kind)) [
      | inl invokes ↦
          let one : BeginsOne index event None before after = MatchBool-at_true _ _ invokes change in
          absurd (none-some (length before) one.last)
      | inr completes ↦ MatchBool-at_false _ _ completes change
    ]

-- ---- the transaction

-- a completion leaves nothing open
ended : (kind : OpKind) → is_invoke kind ≡ false → status_by kind ≡ Open → ⊥
ended kinds.Invoke completes unended = cc
ended kinds.Ok completes unended = cc
ended kinds.Fail completes unended = cc
ended kinds.Info completes unended = cc

-- a transaction that the code says has ended isn't open
pub not_open :
    (status : CodeStatus) (named : Status)
    → (status ≡ codes.Ok) ⊎ (status ≡ codes.Fail) ⊎ (status ≡ codes.Info)
    → status_of status ≡ named
    → named ≡ Open
    → ⊥
not_open codes.Open named (inl e) is unended = cc
not_open codes.Open named (inr (inl e)) is unended = cc
not_open codes.Open named (inr (inr e)) is unended = cc
not_open codes.Ok named either is unended = cc
not_open codes.Fail named either is unended = cc
not_open codes.Info named either is unended = cc

-- where it is neither open nor ok, the event was a fail or an info
pub ended_without_ok :
    (kind : OpKind) (status : CodeStatus)
    → (status ≡ codes.Fail) ⊎ (status ≡ codes.Info)
    → status_of status ≡ status_by kind
    → (kind ≡ kinds.Fail) ⊎ (kind ≡ kinds.Info)
ended_without_ok kinds.Fail status either is = inl refl
ended_without_ok kinds.Info status either is = inr refl
ended_without_ok kinds.Invoke status (inl e) is = cc
ended_without_ok kinds.Invoke status (inr e) is = cc
ended_without_ok kinds.Ok status (inl e) is = cc
ended_without_ok kinds.Ok status (inr e) is = cc

-- the event began the transaction, after all others
pub record IsBegun (events : List Operation) (event : Operation) (later : List Transaction) (place : ℕ) (t : Transaction) : Type 0 where
  pub last : place ≡ length (transactions_of events)
  pub listed : later ≡ transactions_of events ++ t ∷ []
  pub by : IsBegunBy events event t

-- the event completed the transaction, which was another one before
pub record IsEnded (events : List Operation) (event : Operation) (later : List Transaction) (place : ℕ) (t : Transaction) : Type 0 where
  pub was : Transaction
  pub there : slice_get (transactions_of events) place ≡ Some was
  pub completes : Completes was t
  pub listed : later ≡ set (transactions_of events) place t
  pub status : t.status ≡ status_by event.kind
  pub by : t.status ≡ Ok → IsCompletedBy events event t

module _ (events : List Operation) (event : Operation) (later : List Transaction) (place : ℕ) (t : Transaction) (changes : ChangesOne events event later place t) where
  among : Contains (transactions_of (events ++ event ∷ [])) t
  among = subst (λ (ts : List Transaction). Contains ts t) changes.txns (Contains_from_in t later (in_at later place t changes.there))

  begun : BeginsOne (length events) event (Some place) (transactions_of events) later → (t ≡ transaction_by (length events) event None) × IsBegun events event later place t
  begun one =
      let new : Transaction = transaction_by (length events) event None in
      let same : t ≡ new = same_Some t new (sym changes.there ∙ (changed_by_begin (length events) event place (transactions_of events) later one).at) in (
        same,
        record {
          last = same_Some place (length (transactions_of events)) one.last;
          listed = one.listed ∙ ap (λ (u : Transaction). transactions_of events ++ u ∷ []) (sym same);
          by = (among, ap (λ (u : Transaction). u.invocation) same);
        },
      )

  completion : (one : CompletesOne (length events) event place (transactions_of events) later) → (t ≡ completed one.was (length events) event) × IsEnded events event later place t
  completion one =
      let new : Transaction = completed one.was (length events) event in
      let same : t ≡ new = same_Some t new (sym changes.there ∙ (changed_by_end (length events) event place (transactions_of events) later one).at) in
      let next : KeepsRulesAfter events (event ∷ []) = ((kept_by_both [] events (event ∷ [])).0 changes.rules).1 in (
        same,
        record {
          was = one.was;
          there = one.there;
          completes = subst (Completes one.was) (sym same) (one.repeats events refl next);
          listed = one.listed ∙ ap (set (transactions_of events) place) (sym same);
          status = ap (λ (u : Transaction). u.status) same;
          by = λ done. (among, subst (λ (s : Status). IsTrue (is_ok_status s)) (sym done) refl, ap (λ (u : Transaction). u.completion) same);
        },
      )

  pub begins_where_open : t.status ≡ Open → IsBegun events event later place t
  begins_where_open unended = elim (begins_or_completes (length events) event place (transactions_of events) later changes.change) [
    | inl (invokes, one) ↦ (begun one).1
    | inr (completes, one) ↦ absurd (ended event.kind completes (sym (completion one).1.status ∙ unended))
  ]

  pub ends_where_not_open : (t.status ≡ Open → ⊥) → IsEnded events event later place t
  ends_where_not_open closed = elim (begins_or_completes (length events) event place (transactions_of events) later changes.change) [
    | inl (invokes, one) ↦ absurd (closed (ap (λ (u : Transaction). u.status) (begun one).0))
    | inr (completes, one) ↦ (completion one).1
  ]

-- ---- points

-- where points are points of the events, the event is the next one for them
pub await :
    (events : List Operation) (event : Operation) (later : List Transaction) (place : ℕ) (t : Transaction) (before after : KeptVersions) (points : Option KeptPoints)
    → ChangesOne events event later place t
    → AreKept later after
    → StayBeside place before.accesses after.accesses
    → KeepNumbers before.versions after.versions
    → after.keys ≡ before.keys
    → IfSome points (HasPoints events before)
    → IfSome points (AwaitsEvent events event before after later place)
await events event later place t before after None changes kept others numbers keys has = tt
await events event later place t before after (Some p) changes kept others numbers keys has = record {
  points = has;
  basic = record {
    points = has.basic;
    rules = changes.rules;
    txns = changes.txns;
    kept = kept;
    change = changes.change;
    others = others;
  };
  numbers = numbers;
  keys = keys;
}
