-- The state after events has exactly the ok transactions of these events, in the order of their completions.
use Rattle.std.proofs.Common.{◌≡◌, ◌⊎◌, inl, inr, ℕ, ◌+◌, ◌<◌, ◌≤◌, Bool, true, false, ◌==◌, if◌then◌else◌, Option, Some, None, List, [], ◌∷◌, ◌++◌, length, fold, refl, ap, sym, subst, ◌∙◌, arith, append_assoc, append-nil}
use Rattle.std.specs.List.{AllByRecursion}
use Rattle.std.proofs.lemmas.Bool.{false≢true, eqb-true, eq-eqb}
use Rattle.std.proofs.lemmas.List.Sums.{fold-append}
use Rattle.hist_types.proofs.Members.{In, in_front, in_back, in_append}
use Rattle.hist_types.specs.Operations.{Operation}
use Rattle.hist_types.specs.Journal.{is_invoke}
use Rattle.hist_types.specs.Transactions.{Transaction, Indexed, completion_in, transaction_by, transactions_from, transactions_of}
use Rattle.hist_types.specs.declared.types.OpKind.{OpKind}
use Rattle.hist_types.specs.declared.types.OpKind.TheVariants as kinds
use Rattle.order_frontier.specs.declared.types.Completed.{Completed}
use Rattle.order_frontier.specs.Completions.{completed_of}
use Rattle.order_frontier.specs.Events.{State, done_by, after, start, state_of}
use Rattle.order_frontier.proofs.Kept.{AreStrict, rising_strict}
use Rattle.order_frontier.proofs.Seen.{AreSeen}
use Rattle.order_frontier.proofs.Timed.{IsOkBy, ok-by, ok-from, in-first, in-behind, in-head}

-- ---- one event

abbrev pub after_by : Bool → State → Operation → State
after_by invokes s e =
    if invokes
    then record { index = s.index + 1; opened = λ p. if e.process == p then Some s.index else s.opened p; done = s.done }
    else record {
      index = s.index + 1;
      opened = λ p. if e.process == p then None else s.opened p;
      done = s.done ++ done_by e.kind e.process s.index (s.opened e.process);
    }

-- the ok transaction of an invocation that is open
record Ends (s : State) (es : List Operation) (d : Completed) : Type 0 where
  event : Operation
  opened : s.opened d.process ≡ Some d.invocation
  found : completion_in d.process s.index es ≡ Some (record { index = d.completion; event = event })
  kind : event.kind ≡ kinds.Ok

-- the ok transaction of a later invocation
record Begins (index : ℕ) (es : List Operation) (d : Completed) : Type 0 where
  t : Transaction
  member : In t (transactions_from index es)
  done : completed_of t ≡ Some d

abbrev Comes : State → List Operation → Completed → Type 0
Comes s es d = In d s.done ⊎ (Ends s es d ⊎ Begins s.index es d)

pub record IsDoneBy (kind : OpKind) (number index : ℕ) (invocation : Option ℕ) (d : Completed) : Type 0 where
  pub ok : kind ≡ kinds.Ok
  pub opened : invocation ≡ Some d.invocation
  pub at : index ≡ d.completion
  pub process : number ≡ d.process

pub done_by_parts : (kind : OpKind) (number index : ℕ) (invocation : Option ℕ) (d : Completed) → In d (done_by kind number index invocation) → IsDoneBy kind number index invocation d
done_by_parts kinds.Ok number index (Some j) d (inl e) = record {
  ok = refl;
  opened = ap (λ (d : Completed). Some d.invocation) e;
  at = ap (λ (d : Completed). d.completion) e;
  process = ap (λ (d : Completed). d.process) e;
}
done_by_parts kinds.Ok number index (Some j) d (inr i) = elim i [ ]
done_by_parts kinds.Ok number index None d i = elim i [ ]
done_by_parts kinds.Invoke number index invocation d i = elim i [ ]
done_by_parts kinds.Fail number index invocation d i = elim i [ ]
done_by_parts kinds.Info number index invocation d i = elim i [ ]

done_by_from : (kind : OpKind) (number index : ℕ) (invocation : Option ℕ) (d : Completed) → IsDoneBy kind number index invocation d → In d (done_by kind number index invocation)
done_by_from kind number index invocation d by =
    subst (λ k. In d (done_by k number index invocation)) (sym by.ok)
    (subst (λ o. In d (done_by kinds.Ok number index o)) (sym by.opened)
    (inl (
    ap (λ n. record { completion = n; invocation = d.invocation; process = number }) by.at
    ∙ ap (λ n. record { completion = d.completion; invocation = d.invocation; process = n }) by.process
    )))

-- what the completion of a process is, where the first event is of the process or of another
passed : (process index : ℕ) (e : Operation) (es : List Operation) → (e.process == process) ≡ false → completion_in process index (e ∷ es) ≡ completion_in process (index + 1) es
passed process index e es own = ap (λ b. if b then (if is_invoke e.kind then None else Some (record { index = index; event = e })) else completion_in process (index + 1) es) own

own_first : (process index : ℕ) (e : Operation) (es : List Operation) (invokes : Bool) → (e.process == process) ≡ true → is_invoke e.kind ≡ invokes
    → completion_in process index (e ∷ es) ≡ (if invokes then None else Some (record { index = index; event = e }))
own_first process index e es invokes own kind =
    ap (λ b. if b then (if is_invoke e.kind then None else Some (record { index = index; event = e })) else completion_in process (index + 1) es) own
    ∙ ap (λ b. if b then None else Some (record { index = index; event = e })) kind

-- ---- nothing but the ok transactions

ends_sound : (s : State) (e : Operation) (es : List Operation) (d : Completed) (invokes own : Bool) → is_invoke e.kind ≡ invokes → (e.process == d.process) ≡ own
    → Ends (after_by invokes s e) es d → Comes s (e ∷ es) d
ends_sound s e es d true true kind own ends =
    let p : e.process ≡ d.process = eqb-true e.process d.process own in
    let at : s.index ≡ d.invocation =
    (let h : Some s.index ≡ Some d.invocation = ap (λ b. if b then Some s.index else s.opened d.process) (sym own) ∙ ends.opened in cc) in
    inr (inr (record {
      t = transaction_by s.index e (completion_in e.process (s.index + 1) es);
      member = in-head s.index e es kind;
      done =
          ap (λ c. completed_of (transaction_by s.index e c)) (ap (λ q. completion_in q (s.index + 1) es) p ∙ ends.found)
          ∙ ok-from s.index e ends.event d.completion ends.kind
          ∙ ap (λ n. Some (record { completion = d.completion; invocation = n; process = e.process })) at
          ∙ ap (λ q. Some (record { completion = d.completion; invocation = d.invocation; process = q })) p;
    }))
ends_sound s e es d true false kind own ends = inr (inl (record {
  event = ends.event;
  opened = ap (λ b. if b then Some s.index else s.opened d.process) (sym own) ∙ ends.opened;
  found = passed d.process s.index e es own ∙ ends.found;
  kind = ends.kind;
}))
ends_sound s e es d false true kind own ends =
    let h : None ≡ Some d.invocation = ap (λ b. if b then None else s.opened d.process) (sym own) ∙ ends.opened in cc
ends_sound s e es d false false kind own ends = inr (inl (record {
  event = ends.event;
  opened = ap (λ b. if b then None else s.opened d.process) (sym own) ∙ ends.opened;
  found = passed d.process s.index e es own ∙ ends.found;
  kind = ends.kind;
}))

begins_sound : (s : State) (e : Operation) (es : List Operation) (d : Completed) → Begins (s.index + 1) es d → Begins s.index (e ∷ es) d
begins_sound s e es d begins = record { t = begins.t; member = in-behind begins.t s.index e es begins.member; done = begins.done }

sound_step : (s : State) (e : Operation) (es : List Operation) (d : Completed) (invokes : Bool) → is_invoke e.kind ≡ invokes
    → Comes (after_by invokes s e) es d → Comes s (e ∷ es) d
sound_step s e es d true kind (inl i) = inl i
sound_step s e es d true kind (inr (inl ends)) = ends_sound s e es d true (e.process == d.process) kind refl ends
sound_step s e es d true kind (inr (inr begins)) = inr (inr (begins_sound s e es d begins))
sound_step s e es d false kind (inl i) = elim (in_append d s.done (done_by e.kind e.process s.index (s.opened e.process)) i) [
  | inl before ↦ inl before
  | inr here ↦
      let by = done_by_parts e.kind e.process s.index (s.opened e.process) d here in
      inr (inl (record {
        event = e;
        opened = ap s.opened (sym by.process) ∙ by.opened;
        found =
            own_first d.process s.index e es false (eq-eqb e.process d.process by.process) kind
            ∙ ap (λ n. Some (record { index = n; event = e })) by.at;
        kind = by.ok;
      }))
]
sound_step s e es d false kind (inr (inl ends)) = ends_sound s e es d false (e.process == d.process) kind refl ends
sound_step s e es d false kind (inr (inr begins)) = inr (inr (begins_sound s e es d begins))

sound : (s : State) (es : List Operation) (d : Completed) → In d (fold after s es).done → Comes s es d
sound s [] d i = inl i
sound s (e ∷ es) d i = sound_step s e es d (is_invoke e.kind) refl (sound (after s e) es d i)

-- ---- all of the ok transactions

ends_complete : (s : State) (e : Operation) (es : List Operation) (d : Completed) (invokes own : Bool) → is_invoke e.kind ≡ invokes → (e.process == d.process) ≡ own
    → Ends s (e ∷ es) d → Comes (after_by invokes s e) es d
ends_complete s e es d true true kind own ends =
    let h : None ≡ Some (record { index = d.completion; event = ends.event }) = sym (own_first d.process s.index e es true own kind) ∙ ends.found in cc
ends_complete s e es d true false kind own ends = inr (inl (record {
  event = ends.event;
  opened = ap (λ b. if b then Some s.index else s.opened d.process) own ∙ ends.opened;
  found = sym (passed d.process s.index e es own) ∙ ends.found;
  kind = ends.kind;
}))
ends_complete s e es d false true kind own ends =
    let p : e.process ≡ d.process = eqb-true e.process d.process own in
    let h : Some (record { index = s.index; event = e }) ≡ Some (record { index = d.completion; event = ends.event }) = sym (own_first d.process s.index e es false own kind) ∙ ends.found in
    let same : record { index = s.index; event = e } ≡ record { index = d.completion; event = ends.event } = cc in
    inl (in_back d s.done (done_by e.kind e.process s.index (s.opened e.process)) (done_by_from e.kind e.process s.index (s.opened e.process) d (record {
      ok = ap (λ (x : Indexed). x.event.kind) same ∙ ends.kind;
      opened = ap s.opened p ∙ ends.opened;
      at = ap (λ (x : Indexed). x.index) same;
      process = p;
    })))
ends_complete s e es d false false kind own ends = inr (inl (record {
  event = ends.event;
  opened = ap (λ b. if b then None else s.opened d.process) own ∙ ends.opened;
  found = sym (passed d.process s.index e es own) ∙ ends.found;
  kind = ends.kind;
}))

first_complete : (s : State) (e : Operation) (es : List Operation) (d : Completed)
    → IsOkBy (completion_in e.process (s.index + 1) es) s.index e.process d → Ends (after_by true s e) es d
first_complete s e es d ok = record {
  event = ok.event;
  opened =
      ap (λ b. if b then Some s.index else s.opened d.process) (eq-eqb e.process d.process (sym ok.process))
      ∙ ap Some (sym ok.invocation);
  found = ap (λ q. completion_in q (s.index + 1) es) ok.process ∙ ok.found;
  kind = ok.kind;
}

complete_step : (s : State) (e : Operation) (es : List Operation) (d : Completed) (invokes : Bool) → is_invoke e.kind ≡ invokes
    → Comes s (e ∷ es) d → Comes (after_by invokes s e) es d
complete_step s e es d true kind (inl i) = inl i
complete_step s e es d false kind (inl i) = inl (in_front d s.done (done_by e.kind e.process s.index (s.opened e.process)) i)
complete_step s e es d invokes kind (inr (inl ends)) = ends_complete s e es d invokes (e.process == d.process) kind refl ends
complete_step s e es d true kind (inr (inr begins)) = elim (in-first begins.t s.index e es begins.member) [
  | inl first ↦ inr (inl (first_complete s e es d (ok-by s.index e (completion_in e.process (s.index + 1) es) d (ap completed_of first.1 ∙ begins.done))))
  | inr later ↦ inr (inr (record { t = begins.t; member = later; done = begins.done }))
]
complete_step s e es d false kind (inr (inr begins)) = elim (in-first begins.t s.index e es begins.member) [
  | inl first ↦ absurd (false≢true (sym kind ∙ first.0))
  | inr later ↦ inr (inr (record { t = begins.t; member = later; done = begins.done }))
]

-- nothing is left to come
none_left : (s : State) (d : Completed) → Comes s [] d → In d s.done
none_left s d (inl i) = i
none_left s d (inr (inl ends)) = let h = ends.found in cc
none_left s d (inr (inr begins)) = elim begins.member [ ]

complete : (s : State) (es : List Operation) (d : Completed) → Comes s es d → In d (fold after s es).done
complete s [] d comes = none_left s d comes
complete s (e ∷ es) d comes = complete (after s e) es d (complete_step s e es d (is_invoke e.kind) refl comes)

-- ---- in order

pub record IsGood (s : State) : Type 0 where
  pub strict : AreStrict s.done
  pub spans : (v : Completed) → In v s.done → (v.invocation < v.completion) × (v.completion < s.index)
  pub opened : (process invocation : ℕ) → s.opened process ≡ Some invocation → invocation < s.index

all_append : {X : Type 0} (P : X → Type 0) (xs ys : List X) → AllByRecursion P xs → AllByRecursion P ys → AllByRecursion P (xs ++ ys)
all_append P [] ys all more = more
all_append P (x ∷ xs) ys all more = (all.0, all_append P xs ys all.1 more)

all_from : {X : Type 0} (P : X → Type 0) (xs : List X) → ((x : X) → In x xs → P x) → AllByRecursion P xs
all_from P [] h = tt
all_from P (x ∷ xs) h = (h x (inl refl), all_from P xs (λ y i. h y (inr i)))

strict_more : (done more : List Completed) → AreStrict done → AreStrict more → ((v w : Completed) → In v done → In w more → v.completion < w.completion) → AreStrict (done ++ more)
strict_more [] more strict rest later = rest
strict_more (d ∷ done) more strict rest later = (
  all_append (λ (v : Completed). d.completion < v.completion) done more strict.0 (all_from (λ (v : Completed). d.completion < v.completion) more (λ w i. later d w (inl refl) i)),
  strict_more done more strict.1 rest (λ v w i j. later v w (inr i) j),
)

one_alone : (kind : OpKind) (number index : ℕ) (invocation : Option ℕ) → AreStrict (done_by kind number index invocation)
one_alone kinds.Ok number index (Some j) = (tt, tt)
one_alone kinds.Ok number index None = tt
one_alone kinds.Invoke number index invocation = tt
one_alone kinds.Fail number index invocation = tt
one_alone kinds.Info number index invocation = tt

opened_step : (s : State) (e : Operation) (more : Option ℕ) (process invocation : ℕ) (own : Bool) → IsGood s
    → (more ≡ Some invocation → invocation < s.index + 1) → (if own then more else s.opened process) ≡ Some invocation → invocation < s.index + 1
opened_step s e more process invocation true good here is = here is
opened_step s e more process invocation false good here is = let below = good.opened process invocation is in omega (arith, below)

good_step : (s : State) (e : Operation) (invokes : Bool) → IsGood s → IsGood (after_by invokes s e)
good_step s e true good = record {
  strict = good.strict;
  spans = λ v i. (let span = good.spans v i in (span.0, omega (arith, span.1)));
  opened = λ process invocation is. opened_step s e (Some s.index) process invocation (e.process == process) good (λ h. (let same : s.index ≡ invocation = cc in omega (arith, same))) is;
}
good_step s e false good = record {
  strict = strict_more s.done (done_by e.kind e.process s.index (s.opened e.process)) good.strict (one_alone e.kind e.process s.index (s.opened e.process)) (λ v w i j.
      let span = good.spans v i in
      let by = done_by_parts e.kind e.process s.index (s.opened e.process) w j in
      let at = by.at in
      omega (arith, span.1, at));
  spans = λ v i. elim (in_append v s.done (done_by e.kind e.process s.index (s.opened e.process)) i) [
    | inl before ↦ (let span = good.spans v before in (span.0, omega (arith, span.1)))
    | inr here ↦
        let by = done_by_parts e.kind e.process s.index (s.opened e.process) v here in
        let at = by.at in
        let below = good.opened e.process v.invocation by.opened in
        (omega (arith, at, below), omega (arith, at))
  ];
  opened = λ process invocation is. opened_step s e None process invocation (e.process == process) good (λ h. cc) is;
}

goods : (s : State) (es : List Operation) → IsGood s → IsGood (fold after s es)
goods s [] good = good
goods s (e ∷ es) good = goods (after s e) es (good_step s e (is_invoke e.kind) good)

next_index : (s : State) (e : Operation) (es : List Operation) (invokes : Bool) → (after_by invokes s e).index + length es ≡ s.index + length (e ∷ es)
next_index s e es true = omega arith
next_index s e es false = omega arith

indexes : (s : State) (es : List Operation) → (fold after s es).index ≡ s.index + length es
indexes s [] = omega arith
indexes s (e ∷ es) = indexes (after s e) es ∙ next_index s e es (is_invoke e.kind)

-- ---- the state after events

start_good : IsGood start
start_good = record { strict = tt; spans = λ v i. elim i [ ]; opened = λ process invocation is. cc }

pub state-good : (es : List Operation) → IsGood (state_of es)
state-good es = goods start es start_good

pub state-index : (es : List Operation) → (state_of es).index ≡ length es
state-index es = indexes start es ∙ (omega arith)

pub state-more : (es : List Operation) (e : Operation) → state_of (es ++ e ∷ []) ≡ after (state_of es) e
state-more es e = fold-append after start es (e ∷ [])

pub state-sound : (es : List Operation) (d : Completed) → In d (state_of es).done → (t : Transaction) × In t (transactions_of es) × (completed_of t ≡ Some d)
state-sound es d i = elim (sound start es d i) [
  | inl j ↦ elim j [ ]
  | inr (inl ends) ↦ (let h = ends.opened in cc)
  | inr (inr begins) ↦ (begins.t, begins.member, begins.done)
]

pub state-complete : (es : List Operation) (t : Transaction) (d : Completed) → In t (transactions_of es) → completed_of t ≡ Some d → In d (state_of es).done
state-complete es t d i is = complete start es d (inr (inr (record { t = t; member = i; done = is })))

-- ---- more events

-- what more events add completed later
record Adds (s : State) (done : List Completed) : Type 0 where
  more : List Completed
  is : done ≡ s.done ++ more
  late : (v : Completed) → In v more → s.index ≤ v.completion

adds_step : (s : State) (e : Operation) (invokes : Bool) (done : List Completed) → Adds (after_by invokes s e) done → Adds s done
adds_step s e true done adds = record { more = adds.more; is = adds.is; late = λ v i. (let up = adds.late v i in omega (arith, up)) }
adds_step s e false done adds =
    let here = done_by e.kind e.process s.index (s.opened e.process) in
    record {
      more = here ++ adds.more;
      is = adds.is ∙ append_assoc s.done here adds.more;
      late = λ v i. elim (in_append v here adds.more i) [
        | inl now ↦ (let at = (done_by_parts e.kind e.process s.index (s.opened e.process) v now).at in omega (arith, at))
        | inr later ↦ (let up = adds.late v later in omega (arith, up))
      ];
    }

adds_all : (s : State) (rest : List Operation) → Adds s (fold after s rest).done
adds_all s [] = record { more = []; is = sym (append-nil s.done); late = λ v i. elim i [ ] }
adds_all s (e ∷ rest) = adds_step s e (is_invoke e.kind) (fold after (after s e) rest).done (adds_all (after s e) rest)

-- the ok transactions of a beginning are those of all events that completed by its end
pub state-begun : (es rest : List Operation) → AreSeen (transactions_of (es ++ rest)) (length es) (state_of es).done
state-begun es rest =
    let s = state_of es in
    let at = state-index es in
    let all = adds_all s rest in
    let whole : (state_of (es ++ rest)).done ≡ s.done ++ all.more = ap (λ (s : State). s.done) (fold-append after start es rest) ∙ all.is in
    record {
      sound = λ d i.
          let from = state-sound (es ++ rest) d (subst (In d) (sym whole) (in_front d s.done all.more i)) in
          let span = ((state-good es).spans d i).1 in
          (from.0, from.1, from.2, omega (arith, span, at));
      complete = λ t d i done below. elim (in_append d s.done all.more (subst (In d) whole (state-complete (es ++ rest) t d i done))) [
        | inl before ↦ before
        | inr later ↦ (let up = all.late d later in absurd (omega (arith, up, at, below)))
      ];
      rising = rising_strict s.done (state-good es).strict;
    }

-- the ok transactions of the events are those that completed so far
pub state-seen : (es : List Operation) (index : ℕ) → length es ≤ index → AreSeen (transactions_of es) index (state_of es).done
state-seen es index up = record {
  sound = λ d i.
      let from = state-sound es d i in
      let span = ((state-good es).spans d i).1 in
      let at = state-index es in
      (from.0, from.1, from.2, omega (arith, span, at, up));
  complete = λ t d i is below. state-complete es t d i is;
  rising = rising_strict (state_of es).done (state-good es).strict;
}
