-- What processes saw, and the pairs of versions that they order, after one completion more: a process completes its last transaction,
-- so what each one saw is what it had seen and what the completed transaction sees.
use Rattle.std.proofs.Common.{◌≡◌, ◌⊎◌, inl, inr, ℕ, suc, List, [], ◌∷◌, ◌++◌, length, Bool, true, false, cond, ◌&&◌, ◌==◌, if◌then◌else◌, Some, None, option_map, flat_map, map, append_assoc, append-nil, refl, sym, ◌∙◌, ap, subst}
use Rattle.std.proofs.lemmas.Bool.{and_parts, cases_Bool, eqb-true, eqb-false, eq-eqb, ne_eqb, or_parts}
use Rattle.std.proofs.lemmas.Grind.{flat_map-append}
use Rattle.hist_types.specs.Journal.{is_invoke}
use Rattle.hist_types.specs.Operations.{Operation}
use Rattle.hist_types.specs.Transactions.{Transaction, is_ok, transactions_of}
use Rattle.hist_types.specs.Versions.{VersionPair, version_in, seen_by, met_by, step_to, steps_of, steps_after, process_pairs}
use Rattle.hist_types.specs.declared.types.KeyOrder.TheVariants.{Sequential}
use Rattle.hist_types.proofs.Members.{In, in_front, in_back, in_append}
use Rattle.history_laws.proofs.ThinningTimes.{transactions_timed}
use Rattle.key_versions.proofs.Stepping.{own_of}
use Rattle.txn_pairs.specs.Places.{is_open, has_process, open_place, completed, with_completed}
use Rattle.txn_pairs.proofs.Growth.{takes_completion}
use Rattle.txn_pairs.proofs.Places.{with_completed-behind}
use Rattle.serial_points.specs.NextPoints.{IsOfEvent}
use Rattle.serial_points.proofs.Changed.{same_or_not}
use Rattle.serial_points.proofs.OneEvent.{earlier, open_not_ok, others_stay}

-- ---- what was seen, and steps

seen-append : (process : ℕ) (ts us : List Transaction) → seen_by process (ts ++ us) ≡ seen_by process ts ++ seen_by process us
seen-append process ts us = flat_map-append (own_of process) ts us

steps-append :
    (before ts us : List Transaction)
    → steps_after before (ts ++ us) ≡ steps_after before ts ++ steps_after (before ++ ts) us
steps-append before [] us = ap (λ (bs : List Transaction). steps_after bs us) (sym (append-nil before))
steps-append before (t ∷ ts) us =
    ap (λ (ps : List VersionPair). steps_of before t ++ ps)
    (steps-append (before ++ t ∷ []) ts us ∙ ap (λ (bs : List Transaction). steps_after (before ++ t ∷ []) ts ++ steps_after bs us) (append_assoc before (t ∷ []) ts))
    ∙ sym (append_assoc (steps_of before t) (steps_after (before ++ t ∷ []) ts) (steps_after (before ++ t ∷ ts) us))

-- a transaction of another process, or one that isn't ok, shows nothing
shows_nothing : (ok own : Bool) (t : Transaction) → (ok && own) ≡ false → cond (ok && own) (map version_in t.mops) [] ≡ []
shows_nothing ok own t none = ap (λ b. cond b (map version_in t.mops) []) none

off : (a b : Bool) → b ≡ false → (a && b) ≡ false
off true b e = e
off false b e = refl

nothing_of_another : (process : ℕ) (t : Transaction) → (t.process == process) ≡ false → own_of process t ≡ []
nothing_of_another process t other = shows_nothing (is_ok t) (t.process == process) t (off (is_ok t) (t.process == process) other)

nothing_yet : (process : ℕ) (t : Transaction) → is_ok t ≡ false → own_of process t ≡ []
nothing_yet process t not_ok = shows_nothing (is_ok t) (t.process == process) t (ap (λ ok. ok && (t.process == process)) not_ok)

nothing_seen : (process : ℕ) (ts : List Transaction) → has_process process ts ≡ false → seen_by process ts ≡ []
nothing_seen process [] none = refl
nothing_seen process (t ∷ ts) none =
    let (first, further) = or_parts (t.process == process) (has_process process ts) none in
    ap (λ vs. vs ++ seen_by process ts) (nothing_of_another process t first) ∙ nothing_seen process ts further

-- the steps of other processes don't depend on what one process saw
same_steps :
    (process : ℕ) (before later us : List Transaction)
    → ((other : ℕ) → (other == process) ≡ false → seen_by other later ≡ seen_by other before)
    → has_process process us ≡ false
    → steps_after later us ≡ steps_after before us
same_steps process before later [] same none = refl
same_steps process before later (u ∷ us) same none =
    let (first, further) = or_parts (u.process == process) (has_process process us) none in
    let still : (other : ℕ) → (other == process) ≡ false → seen_by other (later ++ u ∷ []) ≡ seen_by other (before ++ u ∷ []) =
    λ other differ.
    seen-append other later (u ∷ [])
    ∙ ap (λ vs. vs ++ seen_by other (u ∷ [])) (same other differ)
    ∙ sym (seen-append other before (u ∷ [])) in
    ap (λ vs. (if is_ok u then flat_map (step_to vs) (met_by u) else []) ++ steps_after (later ++ u ∷ []) us) (same u.process first)
    ∙ ap (λ (ps : List VersionPair). steps_of before u ++ ps) (same_steps process (before ++ u ∷ []) (later ++ u ∷ []) us still further)

-- ---- a process completes its last transaction

pub record EndsLast (index : ℕ) (event : Operation) (ts later : List Transaction) (x : Transaction) : Type 0 where
  pub before : List Transaction
  pub after : List Transaction
  pub was : ts ≡ before ++ x ∷ after
  pub now : later ≡ before ++ completed x index event ∷ after
  pub own : x.process ≡ event.process
  pub unended : is_open x ≡ true
  pub last : has_process event.process after ≡ false

abbrev EndsOneAtMost : (index : ℕ) → Operation → (ts later : List Transaction) → Type 0
EndsOneAtMost index event ts later = ((x : Transaction) × EndsLast index event ts later x) ⊎ (later ≡ ts)

ends_behind :
    (index : ℕ) (event : Operation) (t : Transaction) (ts later : List Transaction)
    → EndsOneAtMost index event ts later
    → EndsOneAtMost index event (t ∷ ts) (t ∷ later)
ends_behind index event t ts later (inl (x, e)) = inl (
  x,
  record {
    before = t ∷ e.before;
    after = e.after;
    was = ap (λ (us : List Transaction). t ∷ us) e.was;
    now = ap (λ (us : List Transaction). t ∷ us) e.now;
    own = e.own;
    unended = e.unended;
    last = e.last;
  },
)
ends_behind index event t ts later (inr same) = inr (ap (λ (us : List Transaction). t ∷ us) same)

ends_by :
    (has own : Bool) (index : ℕ) (event : Operation) (t : Transaction) (ts : List Transaction)
    → has_process event.process ts ≡ has
    → ((t.process == event.process) && is_open t) ≡ own
    → EndsOneAtMost index event ts (with_completed (open_place event.process ts) index event ts)
    → EndsOneAtMost index event (t ∷ ts) (with_completed (if has then option_map suc (open_place event.process ts) else (if own then Some 0 else None)) index event (t ∷ ts))
ends_by true own index event t ts more is rest =
    subst (EndsOneAtMost index event (t ∷ ts)) (sym (with_completed-behind (open_place event.process ts) index event t ts))
    (ends_behind index event t ts (with_completed (open_place event.process ts) index event ts) rest)
ends_by false true index event t ts last is rest =
    let both = and_parts (t.process == event.process) (is_open t) is in
    inl (t, record { before = []; after = ts; was = refl; now = refl; own = eqb-true t.process event.process both.0; unended = both.1; last = last })
ends_by false false index event t ts last is rest = inr refl

ends_one :
    (index : ℕ) (event : Operation) (ts : List Transaction)
    → EndsOneAtMost index event ts (with_completed (open_place event.process ts) index event ts)
ends_one index event [] = inr refl
ends_one index event (t ∷ ts) =
    ends_by (has_process event.process ts) ((t.process == event.process) && is_open t) index event t ts refl refl (ends_one index event ts)

ends :
    (events : List Operation) (event : Operation)
    → is_invoke event.kind ≡ false
    → EndsOneAtMost (length events) event (transactions_of events) (transactions_of (events ++ event ∷ []))
ends events event completes =
    let ts : List Transaction = transactions_of events in
    subst (EndsOneAtMost (length events) event ts)
    (takes_completion (length events) event ts (with_completed (open_place event.process ts) (length events) event ts) completes refl events refl refl)
    (ends_one (length events) event ts)

-- ---- what is seen then

module _ (index : ℕ) (event : Operation) (ts later : List Transaction) (x : Transaction) (e : EndsLast index event ts later x) where
  abbrev now : Transaction
  now = completed x index event

  none_before : (process : ℕ) → own_of process x ≡ []
  none_before process = nothing_yet process x (open_not_ok x e.unended)

  seen_apart : (process : ℕ) (t : Transaction) → seen_by process (e.before ++ t ∷ e.after) ≡ seen_by process e.before ++ (own_of process t ++ seen_by process e.after)
  seen_apart process t = seen-append process e.before (t ∷ e.after)

  seen_was : (process : ℕ) → seen_by process ts ≡ seen_by process e.before ++ seen_by process e.after
  seen_was process =
      ap (seen_by process) e.was ∙ seen_apart process x ∙ ap (λ vs. seen_by process e.before ++ (vs ++ seen_by process e.after)) (none_before process)

  seen_now : (process : ℕ) → seen_by process later ≡ seen_by process e.before ++ (own_of process now ++ seen_by process e.after)
  seen_now process = ap (seen_by process) e.now ∙ seen_apart process now

  none_after : (process : ℕ) → (x.process == process) ≡ true → seen_by process e.after ≡ []
  none_after process own =
      nothing_seen process e.after (subst (λ n. has_process n e.after ≡ false) (sym e.own ∙ eqb-true x.process process own) e.last)

  pub sees_own : (process : ℕ) → seen_by process later ≡ seen_by process ts ++ own_of process now
  sees_own process = elim (cases_Bool (x.process == process)) [
    | inl own ↦ (
        let none = none_after process own in
        seen_now process
        ∙ ap (λ vs. seen_by process e.before ++ (own_of process now ++ vs)) none
        ∙ ap (λ vs. seen_by process e.before ++ vs) (append-nil (own_of process now))
        ∙ sym (ap (λ vs. vs ++ own_of process now) (seen_was process ∙ ap (λ vs. seen_by process e.before ++ vs) none ∙ append-nil (seen_by process e.before))))
    | inr other ↦ (
        let none : own_of process now ≡ [] = nothing_of_another process now other in
        seen_now process
        ∙ ap (λ vs. seen_by process e.before ++ (vs ++ seen_by process e.after)) none
        ∙ sym (ap (λ vs. seen_by process ts ++ vs) none ∙ append-nil (seen_by process ts) ∙ seen_was process))
  ]

  steps_before : steps_of e.before now ≡ steps_of ts now
  steps_before =
      let own : (x.process == x.process) ≡ true = eq-eqb x.process x.process refl in
      ap (λ vs. if is_ok now then flat_map (step_to vs) (met_by now) else [])
      (sym (seen_was x.process ∙ ap (λ vs. seen_by x.process e.before ++ vs) (none_after x.process own) ∙ append-nil (seen_by x.process e.before)))

  steps_behind : steps_after (e.before ++ now ∷ []) e.after ≡ steps_after (e.before ++ x ∷ []) e.after
  steps_behind =
      same_steps event.process (e.before ++ x ∷ []) (e.before ++ now ∷ []) e.after
      (λ other differ.
      let apart : (x.process == other) ≡ false = ne_eqb x.process other (λ same. eqb-false other event.process differ (sym same ∙ e.own)) in
      seen-append other e.before (now ∷ [])
      ∙ ap (λ vs. seen_by other e.before ++ (vs ++ [])) (nothing_of_another other now apart ∙ sym (none_before other))
      ∙ sym (seen-append other e.before (x ∷ [])))
      e.last

  steps_apart : (t : Transaction) → steps_after [] (e.before ++ t ∷ e.after) ≡ steps_after [] e.before ++ (steps_of e.before t ++ steps_after (e.before ++ t ∷ []) e.after)
  steps_apart t = steps-append [] e.before (t ∷ e.after)

  -- a pair that a process orders was there, or the transaction that is now completed adds it
  pub pair_or_own :
      (p : VersionPair)
      → In p (process_pairs Sequential later)
      → In p (process_pairs Sequential ts) ⊎ In p (steps_of ts now)
  pair_or_own p i =
      let was : process_pairs Sequential ts ≡ steps_after [] e.before ++ (steps_of e.before x ++ steps_after (e.before ++ x ∷ []) e.after) = ap (steps_after []) e.was ∙ steps_apart x in
      elim (in_append p (steps_after [] e.before) (steps_of e.before now ++ steps_after (e.before ++ now ∷ []) e.after) (subst (In p) (ap (steps_after []) e.now ∙ steps_apart now) i)) [
        | inl first ↦ inl (subst (In p) (sym was) (in_front p (steps_after [] e.before) (steps_of e.before x ++ steps_after (e.before ++ x ∷ []) e.after) first))
        | inr more ↦ elim (in_append p (steps_of e.before now) (steps_after (e.before ++ now ∷ []) e.after) more) [
          | inl own ↦ inr (subst (In p) steps_before own)
          | inr behind ↦
              inl (subst (In p) (sym was)
              (in_back p (steps_after [] e.before) (steps_of e.before x ++ steps_after (e.before ++ x ∷ []) e.after)
              (in_back p (steps_of e.before x) (steps_after (e.before ++ x ∷ []) e.after) (subst (In p) steps_behind behind))))
        ]
      ]

-- ---- it is the transaction of the event

-- what changes where the transaction t is now ok, in whose process it is the last one
pub record IsLastOk (ts later : List Transaction) (t : Transaction) : Type 0 where
  pub seen : (process : ℕ) → seen_by process later ≡ seen_by process ts ++ own_of process t
  pub pairs : (p : VersionPair) → In p (process_pairs Sequential later) → In p (process_pairs Sequential ts) ⊎ In p (steps_of ts t)

pub is_last_ok :
    (events : List Operation) (event : Operation) (t : Transaction)
    → is_invoke event.kind ≡ false
    → In t (transactions_of (events ++ event ∷ []))
    → IsOfEvent (length events) t
    → IsLastOk (transactions_of events) (transactions_of (events ++ event ∷ [])) t
is_last_ok events event t completes i of = elim (ends events event completes) [
  | inr same ↦ absurd (earlier events t (subst (In t) same i) of)
  | inl (x, e) ↦ (
      let index = length events in
      let ts = transactions_of events in
      let later = transactions_of (events ++ event ∷ []) in
      let done = completed x index event in
      let among : In done later = subst (In done) (sym e.now) (in_back done e.before (done ∷ e.after) (inl refl)) in
      let is : done ≡ t = elim (same_or_not t.invocation x.invocation) [
        | inl same ↦ (transactions_timed (events ++ event ∷ [])).apart done t among i (sym same)
        | inr differ ↦ absurd (earlier events done (others_stay events event t done i of among differ) (inr refl))
      ] in
      subst (IsLastOk ts later) is (record { seen = sees_own index event ts later x e; pairs = pair_or_own index event ts later x e }))
]
