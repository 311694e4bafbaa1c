-- One more event of a kept thinned order.
use Rattle.std.proofs.Common.{◌≡◌, ◌⊎◌, inl, inr, ℕ, ◌<◌, ◌==◌, Bool, true, false, if◌then◌else◌, Option, Some, None, List, [], ◌∷◌, ◌++◌, map, length, All, refl, ap, sym, subst, ◌∙◌, arith, append-nil}
use Rattle.std.proofs.lemmas.List.{map-append}
use Rattle.process_map.specs.Values.{value_of}
use Rattle.hist_types.proofs.Members.{In, in_append, in_back, in_from_Contains, in_mapped}
use Rattle.hist_types.specs.Operations.{Operation}
use Rattle.hist_types.specs.Journal.{is_invoke}
use Rattle.hist_types.specs.Transactions.{Transaction, transactions_of}
use Rattle.hist_types.specs.declared.types.OpKind.{OpKind}
use Rattle.hist_types.specs.declared.types.OpKind.TheVariants as kinds
use Rattle.order_frontier.specs.declared.types.Completed.{Completed}
use Rattle.order_frontier.specs.Completions.{completed_of, predecessor_of, frontier_after, AreKept}
use Rattle.order_frontier.specs.Events.{State, done_by, state_of}
use Rattle.order_frontier.specs.Latest.{before_next}
use Rattle.order_frontier.specs.Predecessors.{Before, HasThinned, IsThinnedOrder, NoPredecessorTwice, name_of, names}
use Rattle.order_frontier.specs.Thinnings.{Thinned, IsThinningOf, with_begun, IsBegunBy, IsCompletedBy, IsOfSame}
use Rattle.order_frontier.proofs.Apart.{apart_strict, none_twice}
use Rattle.order_frontier.proofs.Kept.{kept-more, rising_strict}
use Rattle.order_frontier.proofs.Passes.{has_edges, thinned_all, all_thinned, once_all, all_once}
use Rattle.order_frontier.proofs.Seen.{AreSeen, done-parts, has_thinned}
use Rattle.order_frontier.proofs.Settled.{begun_name, begun_at, named_in, names-more, thinned_stays}
use Rattle.order_frontier.proofs.States.{after_by, done_by_parts, state-good, state-index, state-more, state-sound, state-complete, state-begun}
use Rattle.order_frontier.proofs.Timed.{timed, invoked-before}

-- ---- the events so far

pub thinned_order : (es : List Operation) (s : Thinned) → IsThinningOf es s → IsThinnedOrder (transactions_of es) s.order
thinned_order es s is = (has_edges (transactions_of es) s.order (thinned_all (transactions_of es) s.order is.thinned) is.names, is.once, is.names)

pub same_thinning : (s next : Thinned) → next.recent ≡ s.recent → ((p : ℕ) → value_of next.last p ≡ value_of s.last p) → next.order ≡ s.order → IsOfSame s next
same_thinning s next recent lasts order = λ es is. record {
  kept = record { frontier = recent ∙ is.kept.frontier; lasts = λ p. lasts p ∙ is.kept.lasts p };
  thinned = subst (All (HasThinned (transactions_of es))) (sym order) is.thinned;
  once = subst (All NoPredecessorTwice) (sym order) is.once;
  names = ap names order ∙ is.names;
}

invoked_within : (es : List Operation) (s : Thinned) → IsThinningOf es s → (b : Before) → In b s.order → b.invocation < length es
invoked_within es s is b i =
    let found = named_in (transactions_of es) (b.process, b.invocation) (subst (In (b.process, b.invocation)) is.names (in_mapped (λ (b : Before). (b.process, b.invocation)) b s.order i)) in
    let at : found.t.invocation ≡ b.invocation = ap (λ (n : ℕ × ℕ). n.1) found.is in
    let below = invoked-before found.t 0 es found.member in
    omega (arith, at, below)

still_thinned : (es : List Operation) (e : Operation) (s : Thinned) → IsThinningOf es s → (b : Before) → In b s.order → HasThinned (transactions_of (es ++ e ∷ [])) b
still_thinned es e s is b i = thinned_stays es e b (invoked_within es s is b i) (thinned_all (transactions_of es) s.order is.thinned b i)

done_after : (es : List Operation) (e : Operation) (invokes : Bool) → is_invoke e.kind ≡ invokes → (state_of (es ++ e ∷ [])).done ≡ (after_by invokes (state_of es) e).done
done_after es e invokes is = ap (λ (s : State). s.done) (state-more es e) ∙ ap (λ b. (after_by b (state_of es) e).done) is

-- ---- an invocation

invoked_by : (es : List Operation) (e : Operation) (t : Transaction) → IsBegunBy es e t → (is_invoke e.kind ≡ true) × (name_of t ≡ (e.process, length es))
invoked_by es e t begun =
    let at = begun.1 in
    let i = in_from_Contains t (transactions_of (es ++ e ∷ [])) begun.0 in
    elim (in_append (name_of t) (map name_of (transactions_of es)) (begun_name (is_invoke e.kind) (length es) e) (subst (In (name_of t)) (names-more es e) (in_mapped name_of t (transactions_of (es ++ e ∷ [])) i))) [
      | inl before ↦
          let found = named_in (transactions_of es) (name_of t) before in
          let same : found.t.invocation ≡ t.invocation = ap (λ (n : ℕ × ℕ). n.1) found.is in
          let below = invoked-before found.t 0 es found.member in
          absurd (omega (arith, same, below, at))
      | inr here ↦ begun_at (is_invoke e.kind) (length es) e (name_of t) here
    ]

pub thinning_begun : (es : List Operation) (e : Operation) (s : Thinned) (t : Transaction) → IsThinningOf es s → IsBegunBy es e t → IsThinningOf (es ++ e ∷ []) (with_begun s t)
thinning_begun es e s t is begun =
    let ts' = transactions_of (es ++ e ∷ []) in
    let done = (state_of es).done in
    let by = invoked_by es e t begun in
    let before : Before = before_next s.recent s.last t.process t.invocation in
    let same : (state_of (es ++ e ∷ [])).done ≡ done = done_after es e true by.0 in
    let seen : AreSeen ts' t.invocation done = subst (λ n. AreSeen ts' n done) (sym begun.1) (state-begun es (e ∷ [])) in
    let thinned : HasThinned ts' before = has_thinned ts' t done s.recent (value_of s.last) before (timed (es ++ e ∷ [])) (in_from_Contains t ts' begun.0) seen is.kept refl in
    let once : NoPredecessorTwice before = none_twice done before (value_of s.last t.process) (apart_strict es done (state-sound es) (state-good es).strict) refl is.kept.frontier in
    record {
      kept = subst (λ done. AreKept done s.recent (value_of s.last)) (sym same) is.kept;
      thinned = all_thinned ts' (s.order ++ before ∷ []) (λ b i. elim (in_append b s.order (before ∷ []) i) [
        | inl old ↦ still_thinned es e s is b old
        | inr (inl new) ↦ subst (HasThinned ts') new thinned
        | inr (inr none) ↦ elim none [ ]
      ]);
      once = all_once (s.order ++ before ∷ []) (λ b i. elim (in_append b s.order (before ∷ []) i) [
        | inl old ↦ once_all s.order is.once b old
        | inr (inl new) ↦ subst NoPredecessorTwice new once
        | inr (inr none) ↦ elim none [ ]
      ]);
      names =
          map-append (λ (b : Before). (b.process, b.invocation)) s.order (before ∷ [])
          ∙ ap (λ ns. ns ++ name_of t ∷ []) is.names
          ∙ ap (λ n. map name_of (transactions_of es) ++ n ∷ []) by.1
          ∙ ap (λ b. map name_of (transactions_of es) ++ begun_name b (length es) e) (sym by.0)
          ∙ sym (names-more es e);
    }

-- ---- an event that invokes nothing

same_names : (es : List Operation) (e : Operation) → is_invoke e.kind ≡ false → map name_of (transactions_of (es ++ e ∷ [])) ≡ map name_of (transactions_of es)
same_names es e kind =
    names-more es e ∙ ap (λ b. map name_of (transactions_of es) ++ begun_name b (length es) e) kind ∙ append-nil (map name_of (transactions_of es))

still_thinning : (es : List Operation) (e : Operation) (s next : Thinned) → IsThinningOf es s → is_invoke e.kind ≡ false → next.order ≡ s.order
    → AreKept (state_of (es ++ e ∷ [])).done next.recent (value_of next.last)
    → IsThinningOf (es ++ e ∷ []) next
still_thinning es e s next is kind same kept = record {
  kept = kept;
  thinned = subst (All (HasThinned (transactions_of (es ++ e ∷ [])))) (sym same) (all_thinned (transactions_of (es ++ e ∷ [])) s.order (still_thinned es e s is));
  once = subst (All NoPredecessorTwice) (sym same) is.once;
  names = ap names same ∙ is.names ∙ sym (same_names es e kind);
}

-- ---- an ok

alone : (kind : OpKind) (number index : ℕ) (invocation : Option ℕ) (d : Completed) → In d (done_by kind number index invocation) → done_by kind number index invocation ≡ d ∷ []
alone kinds.Ok number index (Some j) d (inl e) = ap (λ x. x ∷ []) e
alone kinds.Ok number index (Some j) d (inr i) = elim i [ ]
alone kinds.Ok number index None d i = elim i [ ]
alone kinds.Invoke number index invocation d i = elim i [ ]
alone kinds.Fail number index invocation d i = elim i [ ]
alone kinds.Info number index invocation d i = elim i [ ]

record IsNextOk (es : List Operation) (e : Operation) (d : Completed) : Type 0 where
  kind : is_invoke e.kind ≡ false
  done : (state_of (es ++ e ∷ [])).done ≡ (state_of es).done ++ d ∷ []
  span : d.invocation < d.completion

not_before : (es : List Operation) (d : Completed) → d.completion ≡ length es → In d (state_of es).done → ⊥
not_before es d at i =
    let span = (state-good es).spans d i in
    let index = state-index es in
    omega (arith, span.1, index, at)

next_ok : (es : List Operation) (e : Operation) (d : Completed) (invokes : Bool) → is_invoke e.kind ≡ invokes → d.completion ≡ length es → In d (state_of (es ++ e ∷ [])).done → IsNextOk es e d
next_ok es e d true kind at i = absurd (not_before es d at (subst (In d) (done_after es e true kind) i))
next_ok es e d false kind at i =
    let s = state_of es in
    let here = done_by e.kind e.process s.index (s.opened e.process) in
    elim (in_append d s.done here (subst (In d) (done_after es e false kind) i)) [
      | inl before ↦ absurd (not_before es d at before)
      | inr now ↦ record {
        kind = kind;
        done = done_after es e false kind ∙ ap (λ ds. s.done ++ ds) (alone e.kind e.process s.index (s.opened e.process) d now);
        span = ((state-good (es ++ e ∷ [])).spans d i).0;
      }
    ]

pub thinning_completed : (es : List Operation) (e : Operation) (s next : Thinned) (t : Transaction) (d : Completed)
    → completed_of t ≡ Some d
    → next.recent ≡ frontier_after s.recent d
    → ((p : ℕ) → value_of next.last p ≡ (if d.process == p then Some (predecessor_of d) else value_of s.last p))
    → next.order ≡ s.order
    → IsThinningOf es s
    → IsCompletedBy es e t
    → IsThinningOf (es ++ e ∷ []) next
thinning_completed es e s next t d ok recents lasts same is completed =
    let done = (state_of es).done in
    let at : d.completion ≡ length es =
    (let both : Some d.completion ≡ Some (length es) = sym (done-parts t d ok).completion ∙ completed.2 in cc) in
    let new = next_ok es e d (is_invoke e.kind) refl at (state-complete (es ++ e ∷ []) t d (in_from_Contains t (transactions_of (es ++ e ∷ [])) completed.0) ok) in
    let own = new.span in
    let index = state-index es in
    still_thinning es e s next is new.kind same
    (subst (λ done. AreKept done next.recent (value_of next.last)) (sym new.done)
    (kept-more done d s.recent next.recent (value_of s.last) (value_of next.last)
    (λ v i. (let span = (state-good es).spans v i in omega (arith, span.0, span.1, index, at))) (omega (arith, own)) (rising_strict done (state-good es).strict) is.kept recents lasts))

-- ---- an event that completes nothing as an ok

passed_over : (es : List Operation) (e : Operation) (s : Thinned) (kind : OpKind) → IsThinningOf es s → e.kind ≡ kind → is_invoke kind ≡ false
    → ((number index : ℕ) (invocation : Option ℕ) → done_by kind number index invocation ≡ [])
    → IsThinningOf (es ++ e ∷ []) s
passed_over es e s kind is same other none =
    let before = state_of es in
    let invokes : is_invoke e.kind ≡ false = ap is_invoke same ∙ other in
    let done : (state_of (es ++ e ∷ [])).done ≡ before.done =
    done_after es e false invokes
    ∙ ap (λ k. before.done ++ done_by k e.process before.index (before.opened e.process)) same
    ∙ ap (λ ds. before.done ++ ds) (none e.process before.index (before.opened e.process))
    ∙ append-nil before.done in
    still_thinning es e s s is invokes refl (subst (λ done. AreKept done s.recent (value_of s.last)) (sym done) is.kept)

pub thinning_failed : (es : List Operation) (e : Operation) (s : Thinned) → IsThinningOf es s → ((e.kind ≡ kinds.Fail) ⊎ (e.kind ≡ kinds.Info)) → IsThinningOf (es ++ e ∷ []) s
thinning_failed es e s is (inl fail) = passed_over es e s kinds.Fail is fail refl (λ number index invocation. refl)
thinning_failed es e s is (inr info) = passed_over es e s kinds.Info is info refl (λ number index invocation. refl)

no_members : (ds : List Completed) → ((d : Completed) → In d ds → ⊥) → ds ≡ []
no_members [] none = refl
no_members (d ∷ ds) none = absurd (none d (inl refl))

none_done : (es : List Operation) (e : Operation) → transactions_of (es ++ e ∷ []) ≡ transactions_of es → (invokes : Bool) → is_invoke e.kind ≡ invokes → (state_of (es ++ e ∷ [])).done ≡ (state_of es).done
none_done es e same true kind = done_after es e true kind
none_done es e same false kind =
    let s = state_of es in
    let here = done_by e.kind e.process s.index (s.opened e.process) in
    let none : here ≡ [] = no_members here (λ d i.
    let from = state-sound (es ++ e ∷ []) d (subst (In d) (sym (done_after es e false kind)) (in_back d s.done here i)) in
    let at : d.completion ≡ length es = sym (done_by_parts e.kind e.process s.index (s.opened e.process) d i).at ∙ state-index es in
    not_before es d at (state-complete es from.0 d (subst (In from.0) same from.1) from.2)) in
    done_after es e false kind ∙ ap (λ ds. s.done ++ ds) none ∙ append-nil s.done

pub thinning_idle : (es : List Operation) (e : Operation) (s : Thinned) → IsThinningOf es s → transactions_of (es ++ e ∷ []) ≡ transactions_of es → IsThinningOf (es ++ e ∷ []) s
thinning_idle es e s is same = record {
  kept = subst (λ done. AreKept done s.recent (value_of s.last)) (sym (none_done es e same (is_invoke e.kind) refl)) is.kept;
  thinned = subst (λ ts. All (HasThinned ts) s.order) (sym same) is.thinned;
  once = is.once;
  names = is.names ∙ ap (map name_of) (sym same);
}
