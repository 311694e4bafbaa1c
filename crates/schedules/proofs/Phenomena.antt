-- What a schedule rules out of phenomena.
use Rattle.std.proofs.Common.{◌≡◌, ◌<◌, ◌≤◌, ℕ, List, [], ◌∷◌, Bool, true, false, ◌&&◌, ◌||◌, Contains, count_by, refl, subst, arith}
use Rattle.std.specs.List.{AllByRecursion, list_all, list_any}
use Rattle.std.proofs.lemmas.Bool.{false≢true, and_parts, eqb-true}
use Rattle.std.proofs.lemmas.List.Elements.{recursion_from_All, All-from_recursion}
use Rattle.hist_types.specs.Edges.{Label, ww, wr, rw, process, realtime, Edge, edges_at}
use Rattle.hist_types.specs.Phenomena.{is_ww_label, is_wr_label, is_rw_label, is_ww, is_wr, is_rw, is_order, Shows, IsThere}
use Rattle.hist_types.specs.Reports.{AreFindings, no_findings}
use Rattle.hist_types.specs.Transactions.{Transaction}
use Rattle.hist_types.specs.declared.types.KeyOrder.{KeyOrder}
use Rattle.hist_types.specs.declared.types.Level.{Level}
use Rattle.hist_types.specs.declared.types.Level.TheVariants.{Plain, Process, Realtime}
use Rattle.hist_types.specs.declared.types.Phenomenon.{Phenomenon}
use Rattle.hist_types.specs.declared.types.Phenomenon.TheVariants.{G0, G1c, GSingle, G2Item}
use Rattle.hist_types.proofs.Members.{In, in_from_Contains, Contains_from_in}
use Rattle.history_laws.proofs.ThinningWalks.{none_counted, within_in}
use Rattle.schedules.specs.Cycles.{pivots, reaches, CyclesPivot, rules_out, HasNoneRuledOut}
use Rattle.schedules.specs.Schedules.{Schedule, IsKept, is_of, Keeps, IsSerial}
use Rattle.schedules.specs.declared.types.EdgeKinds.{EdgeKinds}
use Rattle.schedules.specs.declared.types.TheConstants.EdgeKinds.{ALL}
use Rattle.schedules.proofs.Kept.{is_order_label, edge_kept, order_reached, joins_two}
use Rattle.schedules.proofs.Walks.{has_pivot, no_pivot}

all_kept :
    (s : Schedule) (es walk : List Edge) (kinds : EdgeKinds)
    → ((e : Edge) → In e es → is_of kinds e.label ≡ true → IsKept s e)
    → AllByRecursion (λ e. In e es) walk
    → AllByRecursion (λ (e : Edge). is_of kinds e.label ≡ true) walk
    → AllByRecursion (IsKept s) walk
all_kept s es [] kinds kept within of = tt
all_kept s es (e ∷ walk) kinds kept within of =
    (kept e within.0 of.0, all_kept s es walk kinds kept within.1 of.1)

pub cycles_pivot :
    (keys : KeyOrder) (kinds : EdgeKinds) (ts : List Transaction) (s : Schedule)
    → Keeps keys kinds ts s
    → CyclesPivot keys kinds ts s
cycles_pivot keys kinds ts s keeps level walk closed within of =
    let es : List Edge = edges_at keys level ts in
    let each = recursion_from_All (λ (e : Edge). is_of kinds e.label ≡ true) walk of in
    let kept : AllByRecursion (IsKept s) walk =
    all_kept s es walk kinds (λ e i of. edge_kept keys kinds ts s level e keeps i of)
    (within_in es walk within) each in
    let (n, i, spans) = has_pivot s keeps.first walk closed kept in
    (n, Contains_from_in n (pivots walk) i, spans)

-- ---- by phenomenon

-- where the label is of an order edge, these count
abbrev CountsIfOrder : EdgeKinds → Label → Type 0
CountsIfOrder kinds l = is_order_label l ≡ true → kinds.order ≡ true

of_G0 :
    (kinds : EdgeKinds)
    → kinds.ww ≡ true
    → (l : Label)
    → (is_ww_label l || is_order_label l) ≡ true
    → CountsIfOrder kinds l
    → is_of kinds l ≡ true
of_G0 kinds has (ww v w) e order = has
of_G0 kinds has (wr v) e order = elim (false≢true e) [ ]
of_G0 kinds has (rw v w) e order = elim (false≢true e) [ ]
of_G0 kinds has (process p) e order = order refl
of_G0 kinds has (realtime c i) e order = order refl

of_G1c :
    (kinds : EdgeKinds)
    → (kinds.ww && kinds.wr) ≡ true
    → (l : Label)
    → (is_ww_label l || is_wr_label l || is_order_label l) ≡ true
    → CountsIfOrder kinds l
    → is_of kinds l ≡ true
of_G1c kinds both (ww v w) e order = (and_parts kinds.ww kinds.wr both).0
of_G1c kinds both (wr v) e order = (and_parts kinds.ww kinds.wr both).1
of_G1c kinds both (rw v w) e order = elim (false≢true e) [ ]
of_G1c kinds both (process p) e order = order refl
of_G1c kinds both (realtime c i) e order = order refl

of_any :
    (kinds : EdgeKinds)
    → (kinds.ww && kinds.wr && kinds.rw) ≡ true
    → (l : Label)
    → CountsIfOrder kinds l
    → is_of kinds l ≡ true
of_any kinds all (rw v w) order = (and_parts (kinds.ww && kinds.wr) kinds.rw all).1
of_any kinds all (ww v w) order =
    of_G1c kinds (and_parts (kinds.ww && kinds.wr) kinds.rw all).0 (ww v w) refl order
of_any kinds all (wr v) order =
    of_G1c kinds (and_parts (kinds.ww && kinds.wr) kinds.rw all).0 (wr v) refl order
of_any kinds all (process p) order = order refl
of_any kinds all (realtime c i) order = order refl

no_rw_of_G0 : (l : Label) → (is_ww_label l || is_order_label l) ≡ true → is_rw_label l ≡ false
no_rw_of_G0 (ww v w) e = refl
no_rw_of_G0 (wr v) e = refl
no_rw_of_G0 (rw v w) e = elim (false≢true e) [ ]
no_rw_of_G0 (process p) e = refl
no_rw_of_G0 (realtime c i) e = refl

no_rw_of_G1c :
    (l : Label)
    → (is_ww_label l || is_wr_label l || is_order_label l) ≡ true
    → is_rw_label l ≡ false
no_rw_of_G1c (ww v w) e = refl
no_rw_of_G1c (wr v) e = refl
no_rw_of_G1c (rw v w) e = elim (false≢true e) [ ]
no_rw_of_G1c (process p) e = refl
no_rw_of_G1c (realtime c i) e = refl

all_pass : (walk : List Edge) → list_all (λ (e : Edge). true) walk ≡ true
all_pass [] = refl
all_pass (e ∷ walk) = all_pass walk

module _
    (keys : KeyOrder) (kinds : EdgeKinds) (ts : List Transaction) (s : Schedule)
    (keeps : Keeps keys kinds ts s) (level : Level) (reach : reaches kinds level ≡ true) where
  -- what passes the test is of the kinds
  abbrev IsTestOf : (Edge → Bool) → Type 0
  IsTestOf test =
      (e : Edge) → test e ≡ true → CountsIfOrder kinds e.label → is_of kinds e.label ≡ true

  all_of :
      (test : Edge → Bool) (walk : List Edge)
      → IsTestOf test
      → list_all test walk ≡ true
      → AllByRecursion (λ e. In e (edges_at keys level ts)) walk
      → AllByRecursion (λ (e : Edge). is_of kinds e.label ≡ true) walk
  all_of test [] are pass within = tt
  all_of test (e ∷ walk) are pass within =
      let (first, rest) = and_parts (test e) (list_all test walk) pass in
      let order = order_reached keys kinds ts level e reach within.0 in
      (are e first order, all_of test walk are rest within.1)

  all_join_two :
      (walk : List Edge)
      → AllByRecursion (λ e. In e (edges_at keys level ts)) walk
      → AllByRecursion (λ (e : Edge). ¬ (e.from ≡ e.to)) walk
  all_join_two [] within = tt
  all_join_two (e ∷ walk) within = (joins_two keys ts level e within.0, all_join_two walk within.1)

  spanning_pivot :
      (phenomenon : Phenomenon) (walk : List Edge) (test : Edge → Bool)
      → Shows phenomenon (edges_at keys level ts) walk
      → IsTestOf test
      → list_all test walk ≡ true
      → (n : ℕ) × Contains (pivots walk) n × (s.start n < s.commit n)
  spanning_pivot phenomenon walk test shows are pass =
      let of = all_of test walk are pass (within_in (edges_at keys level ts) walk shows.within) in
      cycles_pivot keys kinds ts s keeps level walk shows.closed shows.within
      (All-from_recursion (λ (e : Edge). is_of kinds e.label ≡ true) walk of)

  -- a walk with one rw edge at most has no pivot
  none_with_few :
      (phenomenon : Phenomenon) (walk : List Edge) (test : Edge → Bool)
      → Shows phenomenon (edges_at keys level ts) walk
      → IsTestOf test
      → list_all test walk ≡ true
      → count_by is_rw walk ≤ 1
      → ⊥
  none_with_few phenomenon walk test shows are pass few =
      let (n, among, spans) = spanning_pivot phenomenon walk test shows are pass in
      let two = all_join_two walk (within_in (edges_at keys level ts) walk shows.within) in
      let none : pivots walk ≡ [] = no_pivot walk shows.closed two few in
      subst (In n) none (in_from_Contains n (pivots walk) among)

  pub none_there :
      (serial : Bool)
      → (serial ≡ true → IsSerial s)
      → (phenomenon : Phenomenon)
      → rules_out kinds serial phenomenon ≡ true
      → ¬ IsThere keys phenomenon level ts
  none_there serial one G0 rules (walk, shows) =
      let test : Edge → Bool = λ e. is_ww e || is_order e in
      let pass : list_all test walk ≡ true =
      (and_parts (list_all test walk) (list_any is_ww walk) shows.kinds).0 in
      let none = none_counted test is_rw (λ e. no_rw_of_G0 e.label) walk pass in
      none_with_few G0 walk test shows (λ e. of_G0 kinds rules e.label) pass (omega (arith, none))
  none_there serial one G1c rules (walk, shows) =
      let test : Edge → Bool = λ e. is_ww e || is_wr e || is_order e in
      let pass : list_all test walk ≡ true =
      (and_parts (list_all test walk) (list_any is_wr walk) shows.kinds).0 in
      let none = none_counted test is_rw (λ e. no_rw_of_G1c e.label) walk pass in
      none_with_few G1c walk test shows (λ e. of_G1c kinds rules e.label) pass (omega (arith, none))
  none_there serial one GSingle rules (walk, shows) =
      let single : count_by is_rw walk ≡ 1 = eqb-true (count_by is_rw walk) 1 shows.kinds in
      none_with_few GSingle walk (λ e. true) shows (λ e pass. of_any kinds rules e.label)
      (all_pass walk) (omega (arith, single))
  none_there serial one G2Item rules (walk, shows) =
      let (all, is_one) = and_parts (kinds.ww && kinds.wr && kinds.rw) serial rules in
      let (n, among, spans) =
      spanning_pivot G2Item walk (λ e. true) shows (λ e pass. of_any kinds all e.label)
      (all_pass walk) in
      let same : s.commit n ≤ s.start n = one is_one n in
      absurd (omega (arith, spans, same))

-- a serial schedule that keeps each edge leaves nothing to be found
pub nothing_found :
    (keys : KeyOrder) (ts : List Transaction)
    → HasNoneRuledOut keys ALL true ts
    → AreFindings keys ts no_findings
nothing_found keys ts none = each
  where
    at_each :
        (phenomenon : Phenomenon)
        → rules_out ALL true phenomenon ≡ true
        → (level : Level)
        → ¬ IsThere keys phenomenon level ts
    at_each phenomenon rules Plain = none phenomenon Plain rules refl
    at_each phenomenon rules Process = none phenomenon Process rules refl
    at_each phenomenon rules Realtime = none phenomenon Realtime rules refl

    each : AreFindings keys ts no_findings
    each G0 = (at_each G0 refl, tt)
    each G1c = (at_each G1c refl, tt)
    each GSingle = (at_each GSingle refl, tt)
    each G2Item = (at_each G2Item refl, tt)
