-- Steps of processes that are kept, and points along them, after one more event.
use Rattle.std.proofs.Common.{◌≡◌, ◌⊎◌, inl, inr, ℕ, List, [], ◌∷◌, ◌++◌, length, true, false, cond, ◌&&◌, ◌==◌, filter, flat_map, map, append-nil, Option, Some, None, Contains, refl, sym, ◌∙◌, ap, subst}
use Rattle.std.specs.Prelude.{slice_get}
use Rattle.std.proofs.lemmas.Bool.{cases_Bool}
use Rattle.std.proofs.lemmas.List.Elements.{All-contains, filter-append}
use Rattle.hist_types.specs.Journal.{writes_of, is_invoke}
use Rattle.hist_types.specs.Operations.{Operation}
use Rattle.hist_types.specs.Transactions.{Transaction, Version, transaction_by, transactions_of, status_by, is_ok_status, is_ok, external_reads}
use Rattle.hist_types.specs.Versions.{VersionPair, version_in, seen_by, met_by, step_to, steps_of, process_pairs}
use Rattle.hist_types.specs.declared.types.KeyOrder.{KeyOrder}
use Rattle.hist_types.specs.declared.types.KeyOrder.TheVariants.{Sequential}
use Rattle.hist_types.proofs.Members.{In, in_from_Contains, Contains_from_in, in_map, in_mapped}
use Rattle.key_versions.specs.Histories.{seen_in}
use Rattle.key_versions.specs.Kept.{KeptVersions, AreKept, KeepNumbers}
use Rattle.key_versions.specs.LastSeen.{last_seen}
use Rattle.key_versions.specs.Numbering.{AreAccesses}
use Rattle.key_versions.specs.Stepped.{step_at, as_step, HasLastSeen}
use Rattle.key_versions.specs.Steps.{firsts, steps_to}
use Rattle.key_versions.specs.TxnAccesses.{TxnAccesses, AreAccessesOf, AreSeenBy}
use Rattle.key_versions.proofs.Joined.{lasts_are}
use Rattle.key_versions.proofs.Keeping.{have_at}
use Rattle.key_versions.proofs.Stepping.{last_stays, met_are, own_of, seen_step, steps_are}
use Rattle.txn_pairs.specs.Growth.{IsChange}
use Rattle.txn_pairs.specs.Places.{completed}
use Rattle.dep_edges.proofs.Writers.{in_at}
use Rattle.clean_order.proofs.Accesses.{has_accesses, kept_count}
use Rattle.serial_points.specs.Bounds.{BoundAll}
use Rattle.serial_points.specs.KeptPoints.{KeptPoints, HasBasicPoints, HasPoints, IsNext, HasSettled, PointsAdvance, UsersAdvance}
use Rattle.serial_points.specs.KeptSteps.{HasPair, HasSteps}
use Rattle.serial_points.specs.Stepping.{StepsPass, AllStepsRise}
use Rattle.serial_points.specs.Steps.{HasStep, AreNoSteps, IsStepped, StepsAdvance}
use Rattle.serial_points.specs.Strays.{StraysAdvance}
use Rattle.serial_points.specs.Users.{AreUsers}
use Rattle.serial_points.specs.Views.{PointsView, run_of, view_of}
use Rattle.serial_points.specs.declared.falls.Fall.{Fall}
use Rattle.serial_points.specs.declared.steps.Steps.{Steps}
use Rattle.serial_points.specs.declared.users.Users.{Users}
use Rattle.serial_points.proofs.Changed.{IsChanged, begins_or_completes, changed_by_begin, changed_by_end}
use Rattle.serial_points.proofs.OneCompletion.{IsLastOk, is_last_ok}
use Rattle.serial_points.proofs.OneEvent.{completes, invoked}
use Rattle.serial_points.proofs.OneMore.{points_after, still_advanced}
use Rattle.serial_points.proofs.RisingSteps.{fall_beside, still_rise, still_steps, still_twice, there_or_fresh}
use Rattle.serial_points.proofs.OkSteps.{same_process_pairs, same_seen}

-- ---- what the event changes

-- the transaction isn't ok and the ok ones are the same, or it is ok now
abbrev pub IsOkNow : (ts later : List Transaction) → Transaction → Type 0
IsOkNow ts later t =
    ((is_ok t ≡ false) × (filter is_ok later ≡ filter is_ok ts)) ⊎ ((is_ok t ≡ true) × IsLastOk ts later t)

abbrev ChangesIt : List Operation → Operation → (place : ℕ) → Type 0
ChangesIt events event place =
    let ts = transactions_of events in
    let later = transactions_of (events ++ event ∷ []) in
    (t : Transaction) × IsChanged (length events) ts later place t × IsOkNow ts later t

pub changes_it :
    (events : List Operation) (event : Operation) (place : ℕ)
    → IsChange (length events) event (Some place) (transactions_of events) (transactions_of (events ++ event ∷ []))
    → ChangesIt events event place
changes_it events event place change = elim (begins_or_completes (length events) event place ts later change) [
  | inl (invokes, begins) ↦ (
      let new = transaction_by (length events) event None in (
        new,
        changed_by_begin (length events) event place ts later begins,
        inl (refl, ap (filter is_ok) (invoked events event invokes) ∙ filter-append is_ok ts (new ∷ []) ∙ append-nil (filter is_ok ts)),
      ))
  | inr (ends, done) ↦ (
      let own = completed done.was (length events) event in
      let changed = changed_by_end (length events) event place ts later done in (
        own,
        changed,
        elim (cases_Bool (is_ok own)) [
          | inl ok ↦ inr (ok, is_last_ok events event own ends (in_at later place own changed.at) changed.of)
          | inr not_ok ↦ inl (not_ok, same_ok ends not_ok)
        ],
      ))
]
  where
    ts : List Transaction
    ts = transactions_of events

    later : List Transaction
    later = transactions_of (events ++ event ∷ [])

    same_ok : is_invoke event.kind ≡ false → is_ok_status (status_by event.kind) ≡ false → filter is_ok later ≡ filter is_ok ts
    same_ok ends not_ok = elim (completes events event ends) [
      | inl (x, c) ↦ c.same_ok not_ok
      | inr same ↦ ap (filter is_ok) same
    ]

-- ---- steps

pair_stays :
    (vs us : List Version)
    → KeepNumbers vs us
    → (s : ℕ × ℕ) (p : VersionPair)
    → step_at vs s ≡ as_step p
    → step_at us s ≡ as_step p
pair_stays vs us stay s p is =
    let later : slice_get us s.0 ≡ Some p.later = stay s.0 p.later (ap (λ (q : Option Version × Option Version). q.0) is) in
    let earlier : slice_get us s.1 ≡ Some p.earlier = stay s.1 p.earlier (ap (λ (q : Option Version × Option Version). q.1) is) in
    ap (λ (o : Option Version). (o, slice_get us s.1)) later ∙ ap (λ (o : Option Version). (Some p.later, o)) earlier

module _ (events : List Operation) (event : Operation) (before after : KeptVersions) (p : KeptPoints) (points : List ℕ) (users : Users) (steps : Steps) (falls : List Fall) (place : ℕ)
    (next : IsNext events event before p (transactions_of (events ++ event ∷ [])) after place)
    (used : AreUsers after.accesses users) (grown : UsersAdvance p.basic.users users after.accesses place) (bound : BoundAll after.accesses points users.bounds)
    (advance : PointsAdvance p.basic.points (view_of points users (run_of (transactions_of (events ++ event ∷ [])) after steps.lists)) falls place)
    (stepped : StepsAdvance p.steps steps (transactions_of (events ++ event ∷ [])) after.accesses place)
    (passes : StepsPass (view_of points users (run_of (transactions_of (events ++ event ∷ [])) after steps.lists)) falls place)
    (sequential : after.keys ≡ Sequential) where
  abbrev ts : List Transaction
  ts = transactions_of events

  abbrev later : List Transaction
  later = transactions_of (events ++ event ∷ [])

  abbrev view : PointsView
  view = view_of points users (run_of later after steps.lists)

  abbrev vs : List Version
  vs = after.versions

  had : HasSteps ts before p.basic.points p.basic.users p.steps
  had = next.points.steps (sym next.keys ∙ sequential)

  -- what a process saw, by the numbers of now
  saw : (process : ℕ) → HasLastSeen vs (seen_by process ts) (last_seen p.steps.seen process)
  saw process = last_stays before.versions vs next.numbers (seen_by process ts) (last_seen p.steps.seen process) (had.seen process)

  pair_was : (q : VersionPair) → HasPair before.versions p.steps.lists q → ((s : ℕ × ℕ) → HasStep p.steps.lists s → HasStep steps.lists s) → HasPair vs steps.lists q
  pair_was q (s, is, there) still = (s, pair_stays before.versions vs next.numbers s q is, still s there)

  module _ (t : Transaction) (changed : IsChanged (length events) ts later place t) (a : TxnAccesses) (there : slice_get after.accesses place ≡ Some a) where
    still : (s : ℕ × ℕ) → HasStep p.steps.lists s → HasStep steps.lists s
    still = still_steps p.steps steps later after.accesses place t a changed.at there stepped

    -- ---- it is not ok

    module _ (not_ok : is_ok t ≡ false) (same : filter is_ok later ≡ filter is_ok ts) where
      seen_not_ok : (process : ℕ) → HasLastSeen vs (seen_by process later) (last_seen steps.seen process)
      seen_not_ok process =
          subst (λ us. HasLastSeen vs us (last_seen steps.seen process)) (sym (same_seen process ts later same))
          (subst (λ seen. HasLastSeen vs (seen_by process ts) (last_seen seen process)) (sym (stepped.same_seen t changed.at not_ok)) (saw process))

      pair_not_ok : (q : VersionPair) → Contains (process_pairs Sequential later) q → HasPair vs steps.lists q
      pair_not_ok q c = pair_was q (had.there q (subst (λ ps. Contains ps q) (same_process_pairs Sequential ts later same) c)) still

    -- ---- it is ok now

    module _ (ok : is_ok t ≡ true) (last : IsLastOk ts later t) where
      is : IsStepped p.steps steps t.process a
      is = stepped.stepped t a changed.at there ok

      of_accesses : AreAccessesOf vs t a.reads a.writes × AreSeenBy after.keys vs t a.reads a.writes a.seen
      of_accesses = have_at after.keys vs later after.accesses place t a next.basic.kept.accesses changed.at there

      sees : AreAccesses vs (map version_in t.mops) a.seen
      sees =
          subst (λ b. AreAccesses vs (cond b (map version_in t.mops) []) a.seen) ok
          (subst (λ (keys : KeyOrder). AreAccesses vs (seen_in keys t) a.seen) sequential of_accesses.1.seen)

      seen_ok : (process : ℕ) → HasLastSeen vs (seen_by process later) (last_seen steps.seen process)
      seen_ok process =
          let own : own_of process t ≡ cond (t.process == process) (map version_in t.mops) [] = ap (λ b. cond (b && (t.process == process)) (map version_in t.mops) []) ok in
          subst (λ us. HasLastSeen vs us (last_seen steps.seen process)) (sym (last.seen process ∙ ap (λ us. seen_by process ts ++ us) own))
          (seen_step (t.process == process) vs (seen_by process ts) (map version_in t.mops) (last_seen p.steps.seen process) (last_seen steps.seen process) a.seen (saw process) sees
          (λ nil. is.seen process nil))

      own_steps : map (step_at vs) (steps_to (last_seen p.steps.seen t.process) (firsts a.reads a.writes)) ≡ map as_step (flat_map (step_to (seen_by t.process ts)) (met_by t))
      own_steps =
          let distinct = next.basic.kept.distinct in
          let read : AreAccesses vs (external_reads t) a.reads = subst (λ b. AreAccesses vs (cond b (external_reads t) []) a.reads) ok of_accesses.0.reads in
          steps_are vs distinct (last_seen p.steps.seen t.process) (seen_by t.process ts) (met_by t) (firsts a.reads a.writes) (saw t.process)
          (met_are vs distinct t a.reads a.writes read (lasts_are vs distinct (writes_of t.mops) a.writes of_accesses.0.writes))

      own_pair : (q : VersionPair) → In q (steps_of ts t) → HasPair vs steps.lists q
      own_pair q i =
          let all : List VersionPair = flat_map (step_to (seen_by t.process ts)) (met_by t) in
          let taken : List (ℕ × ℕ) = steps_to (last_seen p.steps.seen t.process) (firsts a.reads a.writes) in
          let among : In q all = subst (λ b. In q (cond b all [])) ok i in
          let (s, j, same) = in_map (step_at vs) (as_step q) taken (subst (In (as_step q)) (sym own_steps) (in_mapped as_step q all among)) in
          (s, same, All-contains (HasStep steps.lists) taken s is.lists.there (Contains_from_in s taken j))

      pair_ok : (q : VersionPair) → Contains (process_pairs Sequential later) q → HasPair vs steps.lists q
      pair_ok q c = elim (last.pairs q (in_from_Contains q (process_pairs Sequential later) c)) [
        | inl was ↦ pair_was q (had.there q (Contains_from_in q (process_pairs Sequential ts) was)) still
        | inr own ↦ own_pair q own
      ]

    rise_now : AllStepsRise view
    rise_now =
        still_rise (view_of p.basic.points p.basic.users (run_of ts before p.steps.lists)) view falls place a there used bound (grown.only a there) changed.other
        next.basic.others passes
        (kept_count ts before next.basic.points.versions ∙ sym next.basic.points.count)
        (fall_beside p.basic.points view falls place t changed.at advance)
        (still_twice p.steps steps later after.accesses place t a changed.at there stepped had.twice)
        (there_or_fresh p.steps steps later after.accesses place t a changed.at there stepped)
        had.rise

    steps_by : IsOkNow ts later t → HasSteps later after points users steps
    steps_by (inl (not_ok, same)) = record {
      seen = seen_not_ok not_ok same;
      there = pair_not_ok not_ok same;
      twice = still_twice p.steps steps later after.accesses place t a changed.at there stepped had.twice;
      rise = rise_now;
    }
    steps_by (inr (ok, last)) = record {
      seen = seen_ok ok last;
      there = pair_ok ok last;
      twice = still_twice p.steps steps later after.accesses place t a changed.at there stepped had.twice;
      rise = rise_now;
    }

  pub has_steps : HasSteps later after points users steps
  has_steps =
      let (t, changed, now) = changes_it events event place next.basic.change in
      let (a, there) = has_accesses later after place t next.basic.kept changed.at in
      steps_by t changed a there now

-- ---- all that is kept

pub all_after :
    (events : List Operation) (event : Operation) (before after : KeptVersions) (p : KeptPoints) (points : List ℕ) (middle users : Users) (steps : Steps) (strays : ℕ)
    (later : List Transaction) (falls : List Fall) (place : ℕ)
    → IsNext events event before p later after place
    → UsersAdvance p.basic.users middle after.accesses place
    → middle.bounds ≡ p.basic.users.bounds
    → middle.floors ≡ p.basic.users.floors
    → HasSettled points middle users after.accesses place
    → PointsAdvance p.basic.points (view_of points users (run_of later after steps.lists)) falls place
    → StraysAdvance p.basic.strays strays users.writers after.accesses place
    → (after.keys ≡ Sequential → StepsAdvance p.steps steps later after.accesses place)
    → StepsPass (view_of points users (run_of later after steps.lists)) falls place
    → HasPoints (events ++ event ∷ []) after (record { basic = record { points = points; users = users; strays = strays }; steps = steps })
all_after events event before after p points middle users steps strays later falls place next grown same level settled advance counted stepped passes =
    let basic = points_after events event before after p.basic points middle users steps.lists strays later falls place next.basic grown same level settled advance counted in
    let is = next.basic.txns in
    record {
      basic = basic;
      steps = λ sequential.
          has_steps events event before after p points users steps falls place (subst (λ us. IsNext events event before p us after place) is next) basic.users
          (still_advanced points p.basic.users middle users after.accesses place grown settled) basic.bounds
          (subst (λ us. PointsAdvance p.basic.points (view_of points users (run_of us after steps.lists)) falls place) is advance)
          (subst (λ us. StepsAdvance p.steps steps us after.accesses place) is (stepped sequential))
          (subst (λ us. StepsPass (view_of points users (run_of us after steps.lists)) falls place) is passes) sequential;
    }

pub all_of_none :
    (kept : KeptVersions) (p : KeptPoints)
    → AreKept [] kept
    → HasBasicPoints [] kept p.basic
    → AreNoSteps p.steps
    → HasPoints [] kept p
all_of_none kept p are basic none = record {
  basic = basic;
  steps = λ sequential. record {
    seen = λ process. ([], tt, λ nil. none.seen process nil);
    there = λ q c. absurd (in_from_Contains q (process_pairs Sequential []) c);
    twice = λ later earlier has. absurd (none.none (later, earlier) has);
    rise = λ later earlier first second t a b has. absurd (none.none (later, earlier) has);
  };
}
