-- The predecessors that are kept give exactly the thinned edges.
use Rattle.std.proofs.Common.{◌≡◌, inl, inr, ◌↔◌, ℕ, ◌<◌, ◌≤◌, nat_lt, flat_map, Bool, true, false, not, ◌&&◌, ◌==◌, if◌then◌else◌, Option, Some, None, option_map, List, [], ◌∷◌, map, filter, Contains, refl, ap, sym, subst, ◌∙◌, arith}
use Rattle.std.specs.Option.{option_map_or, option_to_list}
use Rattle.std.proofs.lemmas.Bool.{false≢true, ltb-true, lt-ltb, eqb-true, eq-eqb, ne_eqb, and_parts, and_from, not-true, not_from_false, cases_order}
use Rattle.hist_types.proofs.Members.{In, in_from_Contains, Contains_from_in, in_each, in_mapped, in_map, in_filter, in_filtered, passes_filter, in_if, in_unless}
use Rattle.history_laws.proofs.OrderEdges.{Comes, comes_from}
use Rattle.hist_types.specs.Transactions.{Transaction, is_ok}
use Rattle.hist_types.specs.Edges.{Label, process, realtime, Edge, edge, between_each, is_ok_before, same_process, realtime_label, order_labels}
use Rattle.hist_types.specs.ThinnedOrder.{is_ordered, has_between, thinned_labels, all_thinned_edges}
use Rattle.hist_types.specs.declared.types.Level.{Level}
use Rattle.hist_types.specs.declared.types.Level.TheVariants.{Plain, Process, Realtime}
use Rattle.order_frontier.specs.declared.types.Predecessor.{Predecessor}
use Rattle.order_frontier.specs.declared.types.Completed.{Completed}
use Rattle.order_frontier.specs.Completions.{completed_of, predecessor_of, is_passed, frontier_of, last_of, AreKept, AreRising}
use Rattle.order_frontier.specs.Predecessors.{Before, process_edge, realtime_edge, HasThinned}
use Rattle.order_frontier.proofs.Lists.{none_from, none_to}
use Rattle.order_frontier.proofs.Kept.{IsLast, last-is}

-- ---- ok transactions

pub record IsDone (t : Transaction) (d : Completed) : Type 0 where
  pub ok : is_ok t ≡ true
  pub completion : t.completion ≡ Some d.completion
  pub invocation : t.invocation ≡ d.invocation
  pub process : t.process ≡ d.process

done_parts : (t : Transaction) (d : Completed) (ok : Bool) (completion : Option ℕ)
    → is_ok t ≡ ok → t.completion ≡ completion
    → (if ok then option_map (λ c. record { completion = c; invocation = t.invocation; process = t.process }) completion else None) ≡ Some d
    → IsDone t d
done_parts t d false completion is has e = cc
done_parts t d true None is has e = cc
done_parts t d true (Some c) is has e =
    let same : record { completion = c; invocation = t.invocation; process = t.process } ≡ d = cc in
    record {
      ok = is;
      completion = has ∙ ap (λ (x : Completed). Some x.completion) same;
      invocation = ap (λ (x : Completed). x.invocation) same;
      process = ap (λ (x : Completed). x.process) same;
    }

pub done-parts : (t : Transaction) (d : Completed) → completed_of t ≡ Some d → IsDone t d
done-parts t d e = done_parts t d (is_ok t) t.completion refl refl e

pub before_from : (t u : Transaction) (d : Completed) → completed_of t ≡ Some d → d.completion < u.invocation → is_ok_before t u ≡ true
before_from t u d e below =
    let parts = done-parts t d e in
    and_from (is_ok t) (option_map_or (λ c. nat_lt c u.invocation) t.completion false) parts.ok
    (ap (λ o. option_map_or (λ c. nat_lt c u.invocation) o false) parts.completion ∙ lt-ltb d.completion u.invocation below)

before_parts : (t u : Transaction) (completion : Option ℕ) → t.completion ≡ completion → is_ok t ≡ true → option_map_or (λ c. nat_lt c u.invocation) completion false ≡ true
    → (d : Completed) × (completed_of t ≡ Some d) × (d.completion < u.invocation)
before_parts t u None has ok below = absurd (false≢true below)
before_parts t u (Some c) has ok below = (
  record { completion = c; invocation = t.invocation; process = t.process },
  ap (λ b. if b then option_map (λ x. record { completion = x; invocation = t.invocation; process = t.process }) t.completion else None) ok
      ∙ ap (option_map (λ x. record { completion = x; invocation = t.invocation; process = t.process })) has,
  ltb-true c u.invocation below,
)

pub before_to : (t u : Transaction) → is_ok_before t u ≡ true → (d : Completed) × (completed_of t ≡ Some d) × (d.completion < u.invocation)
before_to t u e =
    let parts = and_parts (is_ok t) (option_map_or (λ c. nat_lt c u.invocation) t.completion false) e in
    before_parts t u t.completion refl parts.0 parts.1

-- ---- transactions in time

-- One of a process is over before the process's next one, and each is named by its invocation.
pub record AreTimed (ts : List Transaction) : Type 0 where
  pub spans : (t : Transaction) (d : Completed) → In t ts → completed_of t ≡ Some d → d.invocation < d.completion
  pub sequential : (t u : Transaction) (d : Completed) → In t ts → In u ts → t.process ≡ u.process → t.invocation < u.invocation → completed_of t ≡ Some d → d.completion < u.invocation
  pub one : (t u : Transaction) → In t ts → In u ts → t.invocation ≡ u.invocation → t ≡ u

-- the ok transactions that completed before the index, in the order of their completions
pub record AreSeen (ts : List Transaction) (index : ℕ) (done : List Completed) : Type 0 where
  pub sound : (d : Completed) → In d done → (t : Transaction) × In t ts × (completed_of t ≡ Some d) × (d.completion < index)
  pub complete : (t : Transaction) (d : Completed) → In t ts → completed_of t ≡ Some d → d.completion < index → In d done
  pub rising : AreRising done

-- ---- edges

-- an ok transaction that completed before another was invoked, with none between
pub record IsThinned (level : Level) (ts : List Transaction) (t u : Transaction) (d : Completed) : Type 0 where
  pub first : In t ts
  pub second : In u ts
  pub done : completed_of t ≡ Some d
  pub below : d.completion < u.invocation
  pub none : (v : Transaction) → In v ts → is_ordered level t v ≡ true → is_ordered level v u ≡ true → ⊥

pub goes_to : (ts : List Transaction) (f : Transaction → Transaction → List Label) (t u : Transaction) (label : Label)
    → In t ts → In u ts → (t.invocation == u.invocation) ≡ false → In label (f t u) → In (edge t u label) (between_each ts f)
goes_to ts f t u label first second apart i =
    let e = edge t u label in
    in_each (λ (t : Transaction). flat_map (λ (u : Transaction). if t.invocation == u.invocation then [] else map (edge t u) (f t u)) ts) e t ts first
    (in_each (λ (u : Transaction). if t.invocation == u.invocation then [] else map (edge t u) (f t u)) e u ts second
    (subst (λ same. In e (if same then [] else map (edge t u) (f t u))) (sym apart) (in_mapped (edge t u) label (f t u) i)))

-- the labels where nothing is between
in_open : (level : Level) (ts : List Transaction) (t u : Transaction) (label : Label)
    → ((v : Transaction) → In v ts → is_ordered level t v ≡ true → is_ordered level v u ≡ true → ⊥)
    → In label (order_labels level t u) → In label (thinned_labels level ts t u)
in_open level ts t u label none i =
    let clear : has_between level ts t u ≡ false =
    none_from (λ v. is_ordered level t v && is_ordered level v u) ts (λ v j both.
    let parts = and_parts (is_ordered level t v) (is_ordered level v u) both in none v j parts.0 parts.1) in
    subst (λ b. In label (if b then [] else order_labels level t u)) (sym clear) i

pub apart_by : (ts : List Transaction) (t u : Transaction) (d : Completed) → AreTimed ts → In t ts → completed_of t ≡ Some d → d.completion < u.invocation → (t.invocation == u.invocation) ≡ false
apart_by ts t u d timed i e below =
    let span = timed.spans t d i e in
    let own = (done-parts t d e).invocation in
    ne_eqb t.invocation u.invocation (λ same. omega (arith, span, own, below, same))

realtime_from : (ts : List Transaction) (t u : Transaction) (d : Completed) → AreTimed ts → IsThinned Realtime ts t u d
    → In (realtime_edge u.invocation (predecessor_of d)) (all_thinned_edges Realtime ts)
realtime_from ts t u d timed thinned =
    let parts = done-parts t d thinned.done in
    let label = realtime d.completion u.invocation in
    let labelled : In label (order_labels Realtime t u) =
    subst (λ b. In label (if b then realtime_label t.completion u.invocation else [])) (sym (before_from t u d thinned.done thinned.below))
    (subst (λ o. In label (realtime_label o u.invocation)) (sym parts.completion) (inl refl)) in
    subst (λ n. In (record { from = n; to = u.invocation; label = label }) (all_thinned_edges Realtime ts)) parts.invocation
    (goes_to ts (thinned_labels Realtime ts) t u label thinned.first thinned.second (apart_by ts t u d timed thinned.first thinned.done thinned.below)
    (in_open Realtime ts t u label thinned.none labelled))

process_from : (ts : List Transaction) (t u : Transaction) (d : Completed) → AreTimed ts → IsThinned Process ts t u d → t.process ≡ u.process
    → In (process_edge u.process u.invocation (predecessor_of d)) (all_thinned_edges Process ts)
process_from ts t u d timed thinned same =
    let parts = done-parts t d thinned.done in
    let label = process u.process in
    let labelled : In label (order_labels Process t u) =
    subst (λ b. In label (if b then process t.process ∷ [] else [])) (sym (and_from (is_ok_before t u) (same_process t u) (before_from t u d thinned.done thinned.below) (eq-eqb t.process u.process same)))
    (inl (ap process same)) in
    subst (λ n. In (record { from = n; to = u.invocation; label = label }) (all_thinned_edges Process ts)) parts.invocation
    (goes_to ts (thinned_labels Process ts) t u label thinned.first thinned.second (apart_by ts t u d timed thinned.first thinned.done thinned.below)
    (in_open Process ts t u label thinned.none labelled))

none_between : (level : Level) (ts : List Transaction) (t u : Transaction) → has_between level ts t u ≡ false
    → (v : Transaction) → In v ts → is_ordered level t v ≡ true → is_ordered level v u ≡ true → ⊥
none_between level ts t u clear v i first second =
    none_to (λ v. is_ordered level t v && is_ordered level v u) ts clear v i (and_from (is_ordered level t v) (is_ordered level v u) first second)

-- what a thinned edge comes from
record FromRealtime (ts : List Transaction) (e : Edge) : Type 0 where
  t : Transaction
  u : Transaction
  d : Completed
  thinned : IsThinned Realtime ts t u d
  is : e ≡ realtime_edge u.invocation (predecessor_of d)

record FromProcess (ts : List Transaction) (e : Edge) : Type 0 where
  t : Transaction
  u : Transaction
  d : Completed
  thinned : IsThinned Process ts t u d
  same : t.process ≡ u.process
  is : e ≡ process_edge u.process u.invocation (predecessor_of d)

pub only_one : {X : Type 0} (x y : X) → In x (y ∷ []) → y ≡ x
only_one x y (inl e) = e
only_one x y (inr i) = elim i [ ]

realtime_to : (ts : List Transaction) (e : Edge) → In e (all_thinned_edges Realtime ts) → FromRealtime ts e
realtime_to ts e i =
    let c : Comes ts (thinned_labels Realtime ts) e = comes_from ts (thinned_labels Realtime ts) e i in
    let t : Transaction = c.0 in
    let u : Transaction = c.1 in
    let found = in_map (edge t u) e (thinned_labels Realtime ts t u) c.5 in
    let label : Label = found.0 in
    let open_ = in_unless label (has_between Realtime ts t u) (order_labels Realtime t u) found.1 in
    let ordered = in_if label (is_ok_before t u) (realtime_label t.completion u.invocation) open_.1 in
    let before = before_to t u ordered.0 in
    let d : Completed = before.0 in
    let parts = done-parts t d before.1 in
    let is_label : realtime d.completion u.invocation ≡ label =
    only_one label (realtime d.completion u.invocation) (subst (λ o. In label (realtime_label o u.invocation)) parts.completion ordered.1) in
    record {
      t = t;
      u = u;
      d = d;
      thinned = record {
        first = c.2;
        second = c.3;
        done = before.1;
        below = before.2;
        none = none_between Realtime ts t u open_.0;
      };
      is =
          sym found.2 ∙ ap (edge t u) (sym is_label)
          ∙ ap (λ n. record { from = n; to = u.invocation; label = realtime d.completion u.invocation }) parts.invocation;
    }

process_to : (ts : List Transaction) (e : Edge) → In e (all_thinned_edges Process ts) → FromProcess ts e
process_to ts e i =
    let c : Comes ts (thinned_labels Process ts) e = comes_from ts (thinned_labels Process ts) e i in
    let t : Transaction = c.0 in
    let u : Transaction = c.1 in
    let found = in_map (edge t u) e (thinned_labels Process ts t u) c.5 in
    let label : Label = found.0 in
    let open_ = in_unless label (has_between Process ts t u) (order_labels Process t u) found.1 in
    let ordered = in_if label (is_ok_before t u && same_process t u) (process t.process ∷ []) open_.1 in
    let both = and_parts (is_ok_before t u) (same_process t u) ordered.0 in
    let before = before_to t u both.0 in
    let d : Completed = before.0 in
    let parts = done-parts t d before.1 in
    let same : t.process ≡ u.process = eqb-true t.process u.process both.1 in
    let is_label : process t.process ≡ label = only_one label (process t.process) ordered.1 in
    record {
      t = t;
      u = u;
      d = d;
      thinned = record {
        first = c.2;
        second = c.3;
        done = before.1;
        below = before.2;
        none = none_between Process ts t u open_.0;
      };
      same = same;
      is =
          sym found.2 ∙ ap (edge t u) (sym is_label)
          ∙ ap (λ n. record { from = n; to = u.invocation; label = process t.process }) parts.invocation
          ∙ ap (λ p. record { from = d.invocation; to = u.invocation; label = process p }) same;
    }

-- ---- real time

pub some_same : (t : Transaction) (d e : Completed) → completed_of t ≡ Some d → completed_of t ≡ Some e → d ≡ e
some_same t d e is is' = cc

module _ (ts : List Transaction) (u : Transaction) (done : List Completed) (timed : AreTimed ts) (member : In u ts) (seen : AreSeen ts u.invocation done) where
  realtime_kept : (p : Predecessor) → In p (frontier_of done) → In (realtime_edge u.invocation p) (all_thinned_edges Realtime ts)
  realtime_kept p i =
      let found = in_map predecessor_of p (filter (λ d. not (is_passed done d)) done) i in
      let d : Completed = found.0 in
      let inside = in_filter (λ d. not (is_passed done d)) d done found.1 in
      let clear : is_passed done d ≡ false = not-true (is_passed done d) (passes_filter (λ d. not (is_passed done d)) d done found.1) in
      let from = seen.sound d inside in
      let t : Transaction = from.0 in
      subst (λ p. In (realtime_edge u.invocation p) (all_thinned_edges Realtime ts)) found.2
      (realtime_from ts t u d timed (record {
        first = from.1;
        second = member;
        done = from.2;
        below = from.3;
        none = λ v j first second.
            let before = before_to v u second in
            let l : Completed = before.0 in
            let after = before_to t v first in
            let same : after.0 ≡ d = some_same t after.0 d after.1 from.2 in
            let later : d.completion < l.invocation = subst (λ n. d.completion < n) (done-parts v l before.1).invocation (subst (λ (x : Completed). x.completion < v.invocation) same after.2) in
            none_to (λ (v : Completed). nat_lt d.completion v.invocation) done clear l (seen.complete v l j before.1 before.2) (lt-ltb d.completion l.invocation later);
      }))

  realtime_found : (t : Transaction) (d : Completed) → IsThinned Realtime ts t u d → In (predecessor_of d) (frontier_of done)
  realtime_found t d thinned =
      let inside = seen.complete t d thinned.first thinned.done thinned.below in
      let clear : is_passed done d ≡ false =
      none_from (λ (v : Completed). nat_lt d.completion v.invocation) done (λ l j later.
      let from = seen.sound l j in
      let v : Transaction = from.0 in
      let below : d.completion < v.invocation = subst (λ n. d.completion < n) (sym (done-parts v l from.2).invocation) (ltb-true d.completion l.invocation later) in
      thinned.none v from.1 (before_from t v d thinned.done below) (before_from v u l from.2 from.3)) in
      in_mapped predecessor_of d (filter (λ d. not (is_passed done d)) done) (in_filtered (λ d. not (is_passed done d)) d done inside (not_from_false (is_passed done d) clear))

  realtime_thinned : (e : Edge) → In e (map (realtime_edge u.invocation) (frontier_of done)) ↔ (In e (all_thinned_edges Realtime ts) × (e.to ≡ u.invocation))
  realtime_thinned e = (
    λ i. (let found = in_map (realtime_edge u.invocation) e (frontier_of done) i in
        (subst (λ e. In e (all_thinned_edges Realtime ts)) found.2 (realtime_kept found.0 found.1), ap (λ (e : Edge). e.to) (sym found.2))),
    λ i. (let from = realtime_to ts e i.0 in
        let same : from.u ≡ u = timed.one from.u u from.thinned.second member (sym (ap (λ (e : Edge). e.to) from.is) ∙ i.1) in
        let thinned = subst (λ w. IsThinned Realtime ts from.t w from.d) same from.thinned in
        subst (λ e. In e (map (realtime_edge u.invocation) (frontier_of done))) (sym (from.is ∙ ap (λ (w : Transaction). realtime_edge w.invocation (predecessor_of from.d)) same))
        (in_mapped (realtime_edge u.invocation) (predecessor_of from.d) (frontier_of done) (realtime_found from.t from.d thinned))),
  )

  -- ---- one process
  process_kept : (l : Completed) → IsLast u.process done l → In (process_edge u.process u.invocation (predecessor_of l)) (all_thinned_edges Process ts)
  process_kept l last =
      let from = seen.sound l last.member in
      let t : Transaction = from.0 in
      process_from ts t u l timed (record {
        first = from.1;
        second = member;
        done = from.2;
        below = from.3;
        none = λ v j first second.
            let before = before_to v u (and_parts (is_ok_before v u) (same_process v u) second).0 in
            let own : v.process ≡ u.process = eqb-true v.process u.process (and_parts (is_ok_before v u) (same_process v u) second).1 in
            let k : Completed = before.0 in
            let parts = done-parts v k before.1 in
            let after = before_to t v (and_parts (is_ok_before t v) (same_process t v) first).0 in
            let same : after.0 ≡ l = some_same t after.0 l after.1 from.2 in
            let later : l.completion < k.invocation = subst (λ n. l.completion < n) parts.invocation (subst (λ (x : Completed). x.completion < v.invocation) same after.2) in
            let span : k.invocation < k.completion = timed.spans v k j before.1 in
            let latest : k.completion ≤ l.completion = last.latest k (seen.complete v k j before.1 before.2) (sym parts.process ∙ own) in
            omega (arith, later, span, latest);
      }) ((done-parts t l from.2).process ∙ last.own)

  process_found : (t : Transaction) (d l : Completed) → IsThinned Process ts t u d → t.process ≡ u.process → IsLast u.process done l → d ≡ l
  process_found t d l thinned own last =
      let from = seen.sound l last.member in
      let v : Transaction = from.0 in
      let parts = done-parts t d thinned.done in
      let parts' = done-parts v l from.2 in
      let own' : v.process ≡ u.process = parts'.process ∙ last.own in
      let latest : d.completion ≤ l.completion = last.latest d (seen.complete t d thinned.first thinned.done thinned.below) (sym parts.process ∙ own) in
      elim (cases_order t.invocation v.invocation) [
        | inl same ↦ some_same v d l (subst (λ w. completed_of w ≡ Some d) (timed.one t v thinned.first from.1 same) thinned.done) from.2
        | inr (inl earlier) ↦
            let over : d.completion < v.invocation = timed.sequential t v d thinned.first from.1 (own ∙ sym own') earlier thinned.done in
            absurd (thinned.none v from.1
            (and_from (is_ok_before t v) (same_process t v) (before_from t v d thinned.done over) (eq-eqb t.process v.process (own ∙ sym own')))
            (and_from (is_ok_before v u) (same_process v u) (before_from v u l from.2 from.3) (eq-eqb v.process u.process own')))
        | inr (inr later) ↦
            let over : l.completion < t.invocation = timed.sequential v t l from.1 thinned.first (own' ∙ sym own) later from.2 in
            let start = parts.invocation in
            let span : d.invocation < d.completion = timed.spans t d thinned.first thinned.done in
            absurd (omega (arith, over, start, span, latest))
      ]

  process_thinned : (e : Edge) → In e (map (process_edge u.process u.invocation) (option_to_list (last_of u.process done))) ↔ (In e (all_thinned_edges Process ts) × (e.to ≡ u.invocation))
  process_thinned e =
      let Answer : Option Predecessor → Type 0 = λ o. In e (map (process_edge u.process u.invocation) (option_to_list o)) ↔ (In e (all_thinned_edges Process ts) × (e.to ≡ u.invocation)) in
      let back : (from : FromProcess ts e) → e.to ≡ u.invocation → from.u ≡ u = λ from to. timed.one from.u u from.thinned.second member (sym (ap (λ (e : Edge). e.to) from.is) ∙ to) in
      elim (last-is u.process done seen.rising) [
        | inl none ↦ subst Answer (sym none.0) (
          λ i. elim i [ ],
          λ i. (let from = process_to ts e i.0 in
              let same : from.u ≡ u = back from i.1 in
              let thinned = subst (λ w. IsThinned Process ts from.t w from.d) same from.thinned in
              let own : from.t.process ≡ u.process = from.same ∙ ap (λ (w : Transaction). w.process) same in
              absurd (none.1 from.d (seen.complete from.t from.d thinned.first thinned.done thinned.below) (sym (done-parts from.t from.d thinned.done).process ∙ own))),
        )
        | inr found ↦
            let l : Completed = found.0 in
            subst Answer (sym found.1.last) (
              λ i. (let is : process_edge u.process u.invocation (predecessor_of l) ≡ e = only_one e (process_edge u.process u.invocation (predecessor_of l)) i in
                  (subst (λ e. In e (all_thinned_edges Process ts)) is (process_kept l found.1), ap (λ (e : Edge). e.to) (sym is))),
              λ i. (let from = process_to ts e i.0 in
                  let same : from.u ≡ u = back from i.1 in
                  let thinned = subst (λ w. IsThinned Process ts from.t w from.d) same from.thinned in
                  let own : from.t.process ≡ u.process = from.same ∙ ap (λ (w : Transaction). w.process) same in
                  let d : from.d ≡ l = process_found from.t from.d l thinned own found.1 in
                  inl (sym (from.is ∙ ap (λ (w : Transaction). process_edge w.process w.invocation (predecessor_of from.d)) same ∙ ap (λ d. process_edge u.process u.invocation (predecessor_of d)) d))),
            )
      ]

  plain_thinned : (e : Edge) → In e [] ↔ (In e (all_thinned_edges Plain ts) × (e.to ≡ u.invocation))
  plain_thinned e = (
    λ i. elim i [ ],
    λ i. (let c : Comes ts (thinned_labels Plain ts) e = comes_from ts (thinned_labels Plain ts) e i.0 in
        let found = in_map (edge c.0 c.1) e (thinned_labels Plain ts c.0 c.1) c.5 in
        (in_unless found.0 (has_between Plain ts c.0 c.1) [] found.1).1),
  )

-- What is kept gives exactly the thinned edges to a transaction, where the ok ones that completed before it are seen.
contained : {X : Type 0} (P : Type 0) (x : X) (xs ys : List X) → (In x xs ↔ (In x ys × P)) → Contains xs x ↔ (Contains ys x × P)
contained P x xs ys h = (
  λ c. (let both = h.0 (in_from_Contains x xs c) in (Contains_from_in x ys both.0, both.1)),
  λ c. Contains_from_in x xs (h.1 (in_from_Contains x ys c.0, c.1)),
)

abbrev pub kept_before : (u : Transaction) (done : List Completed) → Before
kept_before u done = record {
  process = u.process;
  invocation = u.invocation;
  in_process = option_to_list (last_of u.process done);
  in_realtime = frontier_of done;
}

pub thinned_at : (ts : List Transaction) (u : Transaction) (done : List Completed) → AreTimed ts → In u ts → AreSeen ts u.invocation done → HasThinned ts (kept_before u done)
thinned_at ts u done timed member seen Plain e =
    contained (e.to ≡ u.invocation) e [] (all_thinned_edges Plain ts) (plain_thinned ts u done timed member seen e)
thinned_at ts u done timed member seen Process e =
    contained (e.to ≡ u.invocation) e (map (process_edge u.process u.invocation) (option_to_list (last_of u.process done))) (all_thinned_edges Process ts) (process_thinned ts u done timed member seen e)
thinned_at ts u done timed member seen Realtime e =
    contained (e.to ≡ u.invocation) e (map (realtime_edge u.invocation) (frontier_of done)) (all_thinned_edges Realtime ts) (realtime_thinned ts u done timed member seen e)

pub has_thinned : (ts : List Transaction) (u : Transaction) (done : List Completed) (recent : List Predecessor) (last : ℕ → Option Predecessor) (before : Before)
    → AreTimed ts → In u ts → AreSeen ts u.invocation done → AreKept done recent last
    → before ≡ record { process = u.process; invocation = u.invocation; in_process = option_to_list (last u.process); in_realtime = recent }
    → HasThinned ts before
has_thinned ts u done recent last before timed member seen kept is =
    let same : before ≡ kept_before u done =
    is
    ∙ ap (λ ps. record { process = u.process; invocation = u.invocation; in_process = option_to_list (last u.process); in_realtime = ps }) kept.frontier
    ∙ ap (λ o. record { process = u.process; invocation = u.invocation; in_process = option_to_list o; in_realtime = frontier_of done }) (kept.lasts u.process) in
    subst (HasThinned ts) (sym same) (thinned_at ts u done timed member seen)
