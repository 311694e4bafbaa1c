-- One more event of a frontier.
use Rattle.std.proofs.Common.{◌≡◌, ℕ, ◌<◌, Bool, true, false, ◌==◌, if◌then◌else◌, Option, Some, None, List, [], ◌∷◌, ◌++◌, length, option_to_list, refl, ap, sym, subst, ◌∙◌, arith, zero-add, append-nil}
use Rattle.std.proofs.lemmas.Bool.{eqb-true}
use Rattle.hist_types.proofs.Members.{In}
use Rattle.hist_types.specs.Operations.{Mop, Operation}
use Rattle.hist_types.specs.Transactions.{transaction_by, transactions_of}
use Rattle.hist_types.specs.declared.types.OpKind.TheVariants as kinds
use Rattle.order_frontier.specs.declared.types.Predecessor.{Predecessor}
use Rattle.order_frontier.specs.declared.types.Completed.{Completed}
use Rattle.order_frontier.specs.Completions.{frontier_after, AreKept}
use Rattle.order_frontier.specs.Events.{State, done_by, after, state_of, event_of, IsStateOf}
use Rattle.order_frontier.specs.Predecessors.{Before, HasThinned, NoPredecessorTwice}
use Rattle.order_frontier.proofs.Kept.{kept-more, rising_strict}
use Rattle.order_frontier.proofs.Apart.{apart_strict, none_twice}
use Rattle.order_frontier.proofs.Seen.{has_thinned}
use Rattle.order_frontier.proofs.Timed.{timed, in-last}
use Rattle.order_frontier.proofs.States.{state-good, state-index, state-more, state-sound, state-begun}

module _ (es : List Operation) (process : ℕ) (mops : List Mop) (opened : ℕ → Option ℕ) (recent : List Predecessor) (last : ℕ → Option Predecessor) (is : IsStateOf es opened recent last) where
  -- an invocation
  pub state-invoke : (opened' : ℕ → Option ℕ) → ((p : ℕ) → opened' p ≡ (if process == p then Some (length es) else opened p))
      → IsStateOf (es ++ event_of kinds.Invoke process mops ∷ []) opened' recent last
  state-invoke opened' says = record {
    invocations = λ p.
        says p ∙ ap (λ n. if process == p then Some n else opened p) (sym (state-index es))
        ∙ ap (λ o. if process == p then Some (state_of es).index else o) (is.invocations p)
        ∙ ap (λ (s : State). s.opened p) (sym (state-more es (event_of kinds.Invoke process mops)));
    kept = subst (λ (s : State). AreKept s.done recent last) (sym (state-more es (event_of kinds.Invoke process mops))) is.kept;
  }

  pub thinned-invoke : (before : Before)
      → before ≡ record { process = process; invocation = length es; in_process = option_to_list (last process); in_realtime = recent }
      → HasThinned (transactions_of (es ++ event_of kinds.Invoke process mops ∷ [])) before
  thinned-invoke before same =
      let e = event_of kinds.Invoke process mops in
      let u = transaction_by (length es) e None in
      let member : In u (transactions_of (es ++ e ∷ [])) = subst (λ n. In (transaction_by n e None) (transactions_of (es ++ e ∷ []))) (zero-add (length es)) (in-last 0 es e refl) in
      has_thinned (transactions_of (es ++ e ∷ [])) u (state_of es).done recent last before (timed (es ++ e ∷ [])) member (state-begun es (e ∷ [])) is.kept same

  pub once-invoke : (before : Before)
      → before ≡ record { process = process; invocation = length es; in_process = option_to_list (last process); in_realtime = recent }
      → NoPredecessorTwice before
  once-invoke before same =
      none_twice (state_of es).done before (last process) (apart_strict es (state_of es).done (state-sound es) (state-good es).strict)
      (ap (λ (b : Before). b.in_process) same) (ap (λ (b : Before). b.in_realtime) same ∙ is.kept.frontier)

  -- a completion
  pub state-ok : (invocation : ℕ) (recent' : List Predecessor) (last' : ℕ → Option Predecessor) (opened' : ℕ → Option ℕ)
      → opened process ≡ Some invocation
      → recent' ≡ frontier_after recent (record { completion = length es; invocation = invocation; process = process })
      → ((p : ℕ) → last' p ≡ (if process == p then Some (record { invocation = invocation; completion = length es }) else last p))
      → ((p : ℕ) → opened' p ≡ (if process == p then None else opened p))
      → IsStateOf (es ++ event_of kinds.Ok process mops ∷ []) opened' recent' last'
  state-ok invocation recent' last' opened' found recents lasts opens =
      let e = event_of kinds.Ok process mops in
      let s = state_of es in
      let d : Completed = record { completion = length es; invocation = invocation; process = process } in
      let good = state-good es in
      let at = state-index es in
      let own : invocation < s.index = good.opened process invocation (sym (is.invocations process) ∙ found) in
      let more : AreKept (s.done ++ d ∷ []) recent' last' =
      kept-more s.done d recent recent' last last' (λ v i. (let span = good.spans v i in omega (arith, span.0, span.1, at))) (omega (arith, own, at)) (rising_strict s.done good.strict) is.kept recents lasts in
      let done : s.done ++ d ∷ [] ≡ s.done ++ done_by kinds.Ok process s.index (s.opened process) =
      ap (λ n. s.done ++ record { completion = n; invocation = invocation; process = process } ∷ []) (sym at)
      ∙ ap (λ o. s.done ++ done_by kinds.Ok process s.index o) (sym found ∙ is.invocations process) in
      record {
        invocations = λ p.
            opens p ∙ ap (λ o. if process == p then None else o) (is.invocations p)
            ∙ ap (λ (s : State). s.opened p) (sym (state-more es e));
        kept = subst (λ (s : State). AreKept s.done recent' last') (sym (state-more es e)) (subst (λ done. AreKept done recent' last') done more);
      }

  idle_at : (p : ℕ) (own : Bool) → (process == p) ≡ own → opened process ≡ None → (if own then None else opened p) ≡ opened p
  idle_at p true own found = sym (ap opened (sym (eqb-true process p own)) ∙ found)
  idle_at p false own found = refl

  pub state-idle : opened process ≡ None → IsStateOf (es ++ event_of kinds.Ok process mops ∷ []) opened recent last
  state-idle found =
      let e = event_of kinds.Ok process mops in
      let s = state_of es in
      let done : s.done ≡ s.done ++ done_by kinds.Ok process s.index (s.opened process) =
      sym (append-nil s.done) ∙ ap (λ o. s.done ++ done_by kinds.Ok process s.index o) (sym found ∙ is.invocations process) in
      record {
        invocations = λ p.
            sym (idle_at p (process == p) refl found) ∙ ap (λ o. if process == p then None else o) (is.invocations p)
            ∙ ap (λ (s : State). s.opened p) (sym (state-more es e));
        kept = subst (λ (s : State). AreKept s.done recent last) (sym (state-more es e)) (subst (λ done. AreKept done recent last) done is.kept);
      }

  state_other : (e : Operation) (opened' : ℕ → Option ℕ)
      → ((p : ℕ) → (if process == p then None else (state_of es).opened p) ≡ (after (state_of es) e).opened p)
      → (state_of es).done ≡ (after (state_of es) e).done
      → ((p : ℕ) → opened' p ≡ (if process == p then None else opened p))
      → IsStateOf (es ++ e ∷ []) opened' recent last
  state_other e opened' closes done opens = record {
    invocations = λ p.
        opens p ∙ ap (λ o. if process == p then None else o) (is.invocations p) ∙ closes p
        ∙ ap (λ (s : State). s.opened p) (sym (state-more es e));
    kept = subst (λ (s : State). AreKept s.done recent last) (sym (state-more es e)) (subst (λ done. AreKept done recent last) done is.kept);
  }

  -- a fail
  pub state-fail : (opened' : ℕ → Option ℕ) → ((p : ℕ) → opened' p ≡ (if process == p then None else opened p))
      → IsStateOf (es ++ event_of kinds.Fail process mops ∷ []) opened' recent last
  state-fail opened' opens =
      state_other (event_of kinds.Fail process mops) opened' (λ p. refl) (sym (append-nil (state_of es).done)) opens

  -- an info
  pub state-info : (opened' : ℕ → Option ℕ) → ((p : ℕ) → opened' p ≡ (if process == p then None else opened p))
      → IsStateOf (es ++ event_of kinds.Info process mops ∷ []) opened' recent last
  state-info opened' opens =
      state_other (event_of kinds.Info process mops) opened' (λ p. refl) (sym (append-nil (state_of es).done)) opens
