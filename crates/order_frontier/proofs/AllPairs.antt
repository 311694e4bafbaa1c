-- All predecessors give exactly the order edges.
use Rattle.std.proofs.Common.{◌≡◌, inl, ◌↔◌, ◌<◌, nat_lt, Bool, true, false, not, ◌&&◌, ◌==◌, if◌then◌else◌, Some, List, [], ◌∷◌, map, filter, All, Contains, refl, ap, sym, subst, ◌∙◌}
use Rattle.std.proofs.lemmas.Bool.{ltb-true, lt-ltb, eqb-true, eq-eqb, and_parts, and_from, not-true, not_from_false}
use Rattle.std.proofs.lemmas.List.Elements.{All-from_recursion}
use Rattle.hist_types.proofs.Members.{In, in_from_Contains, Contains_from_in, in_each, in_some, in_mapped, in_map, in_filter, in_filtered, passes_filter, in_if}
use Rattle.history_laws.proofs.OrderEdges.{Comes, comes_from}
use Rattle.hist_types.specs.Transactions.{Transaction}
use Rattle.hist_types.specs.Edges.{Label, process, realtime, Edge, edge, is_ok_before, same_process, realtime_label, order_labels, all_order_edges}
use Rattle.hist_types.specs.declared.types.Level.{Level}
use Rattle.hist_types.specs.declared.types.Level.TheVariants.{Plain, Process, Realtime}
use Rattle.order_frontier.specs.declared.types.Completed.{Completed}
use Rattle.order_frontier.specs.Completions.{completed_of, all_completed, predecessor_of, AreApart}
use Rattle.order_frontier.specs.Pairs.{is_earlier, all_before}
use Rattle.order_frontier.specs.Predecessors.{process_edge, realtime_edge, edges_to, edges_of, HasEdges, NoPredecessorTwice, name_of, names}
use Rattle.order_frontier.proofs.Seen.{done-parts, before_from, before_to, goes_to, only_one}
use Rattle.order_frontier.proofs.Advancing.{completed-to, completed-from, all_from}
use Rattle.order_frontier.proofs.Apart.{apart_from, distinct_passing}

-- an order edge to a transaction: the one that it leaves, which is another
record Leaves (ts : List Transaction) (u : Transaction) (d : Completed) : Type 0 where
  t : Transaction
  first : In t ts
  done : completed_of t ≡ Some d
  below : d.completion < u.invocation
  apart : (t.invocation == u.invocation) ≡ false

module _ (ts : List Transaction) (done : List Completed) (are : (d : Completed) → Contains done d ↔ Contains (all_completed ts) d) where
  leaves_from : (u : Transaction) (d : Completed) → In d done → is_earlier u d ≡ true → Leaves ts u d
  leaves_from u d i earlier =
      let from = completed-to ts d (in_from_Contains d (all_completed ts) ((are d).0 (Contains_from_in d done i))) in
      let both = and_parts (nat_lt d.completion u.invocation) (not (d.invocation == u.invocation)) earlier in
      record {
        t = from.0;
        first = from.1;
        done = from.2;
        below = ltb-true d.completion u.invocation both.0;
        apart = ap (λ n. n == u.invocation) (done-parts from.0 d from.2).invocation ∙ not-true (d.invocation == u.invocation) both.1;
      }

  earlier_from : (t u : Transaction) (d : Completed) → completed_of t ≡ Some d → d.completion < u.invocation → (t.invocation == u.invocation) ≡ false → is_earlier u d ≡ true
  earlier_from t u d is below apart =
      and_from (nat_lt d.completion u.invocation) (not (d.invocation == u.invocation)) (lt-ltb d.completion u.invocation below)
      (not_from_false (d.invocation == u.invocation) (ap (λ n. n == u.invocation) (sym (done-parts t d is).invocation) ∙ apart))

  inside_from : (t : Transaction) (d : Completed) → In t ts → completed_of t ≡ Some d → In d done
  inside_from t d i is = in_from_Contains d done ((are d).1 (Contains_from_in d (all_completed ts) (completed-from ts t d i is)))

  -- ---- each edge is an order edge

  realtime_there : (u : Transaction) (e : Edge) → In u ts → In e (edges_to Realtime (all_before done u)) → In e (all_order_edges Realtime ts)
  realtime_there u e second i =
      let to = in_map (realtime_edge u.invocation) e (map predecessor_of (filter (is_earlier u) done)) i in
      let one = in_map predecessor_of to.0 (filter (is_earlier u) done) to.1 in
      let d : Completed = one.0 in
      let leaves = leaves_from u d (in_filter (is_earlier u) d done one.1) (passes_filter (is_earlier u) d done one.1) in
      let t = leaves.t in
      let parts = done-parts t d leaves.done in
      let label = realtime d.completion u.invocation in
      let labelled : In label (order_labels Realtime t u) =
      subst (λ b. In label (if b then realtime_label t.completion u.invocation else [])) (sym (before_from t u d leaves.done leaves.below))
      (subst (λ o. In label (realtime_label o u.invocation)) (sym parts.completion) (inl refl)) in
      subst (λ e. In e (all_order_edges Realtime ts))
      (ap (λ n. record { from = n; to = u.invocation; label = label }) parts.invocation ∙ ap (realtime_edge u.invocation) one.2 ∙ to.2)
      (goes_to ts (order_labels Realtime) t u label leaves.first second leaves.apart labelled)

  process_there : (u : Transaction) (e : Edge) → In u ts → In e (edges_to Process (all_before done u)) → In e (all_order_edges Process ts)
  process_there u e second i =
      let test : Completed → Bool = λ d. is_earlier u d && (d.process == u.process) in
      let to = in_map (process_edge u.process u.invocation) e (map predecessor_of (filter test done)) i in
      let one = in_map predecessor_of to.0 (filter test done) to.1 in
      let d : Completed = one.0 in
      let both = and_parts (is_earlier u d) (d.process == u.process) (passes_filter test d done one.1) in
      let leaves = leaves_from u d (in_filter test d done one.1) both.0 in
      let t = leaves.t in
      let parts = done-parts t d leaves.done in
      let same : t.process ≡ u.process = parts.process ∙ eqb-true d.process u.process both.1 in
      let label = process u.process in
      let labelled : In label (order_labels Process t u) =
      subst (λ b. In label (if b then process t.process ∷ [] else [])) (sym (and_from (is_ok_before t u) (same_process t u) (before_from t u d leaves.done leaves.below) (eq-eqb t.process u.process same)))
      (inl (ap process same)) in
      subst (λ e. In e (all_order_edges Process ts))
      (ap (λ n. record { from = n; to = u.invocation; label = label }) parts.invocation ∙ ap (process_edge u.process u.invocation) one.2 ∙ to.2)
      (goes_to ts (order_labels Process) t u label leaves.first second leaves.apart labelled)

  there : (level : Level) (u : Transaction) (e : Edge) → In u ts → In e (edges_to level (all_before done u)) → In e (all_order_edges level ts)
  there Plain u e second i = elim i [ ]
  there Process u e second i = process_there u e second i
  there Realtime u e second i = realtime_there u e second i

  -- ---- each order edge is there

  realtime_here : (t u : Transaction) (e : Edge) → In t ts → (t.invocation == u.invocation) ≡ false → In e (map (edge t u) (order_labels Realtime t u)) → In e (edges_to Realtime (all_before done u))
  realtime_here t u e first apart i =
      let found = in_map (edge t u) e (order_labels Realtime t u) i in
      let label : Label = found.0 in
      let ordered = in_if label (is_ok_before t u) (realtime_label t.completion u.invocation) found.1 in
      let before = before_to t u ordered.0 in
      let d : Completed = before.0 in
      let parts = done-parts t d before.1 in
      let is_label : realtime d.completion u.invocation ≡ label =
      only_one label (realtime d.completion u.invocation) (subst (λ o. In label (realtime_label o u.invocation)) parts.completion ordered.1) in
      let same : realtime_edge u.invocation (predecessor_of d) ≡ e =
      ap (λ n. record { from = n; to = u.invocation; label = realtime d.completion u.invocation }) (sym parts.invocation) ∙ ap (edge t u) is_label ∙ found.2 in
      subst (λ e. In e (edges_to Realtime (all_before done u))) same
      (in_mapped (realtime_edge u.invocation) (predecessor_of d) (map predecessor_of (filter (is_earlier u) done))
      (in_mapped predecessor_of d (filter (is_earlier u) done)
      (in_filtered (is_earlier u) d done (inside_from t d first before.1) (earlier_from t u d before.1 before.2 apart))))

  process_here : (t u : Transaction) (e : Edge) → In t ts → (t.invocation == u.invocation) ≡ false → In e (map (edge t u) (order_labels Process t u)) → In e (edges_to Process (all_before done u))
  process_here t u e first apart i =
      let test : Completed → Bool = λ d. is_earlier u d && (d.process == u.process) in
      let found = in_map (edge t u) e (order_labels Process t u) i in
      let label : Label = found.0 in
      let ordered = in_if label (is_ok_before t u && same_process t u) (process t.process ∷ []) found.1 in
      let both = and_parts (is_ok_before t u) (same_process t u) ordered.0 in
      let before = before_to t u both.0 in
      let d : Completed = before.0 in
      let parts = done-parts t d before.1 in
      let own : t.process ≡ u.process = eqb-true t.process u.process both.1 in
      let is_label : process t.process ≡ label = only_one label (process t.process) ordered.1 in
      let same : process_edge u.process u.invocation (predecessor_of d) ≡ e =
      ap (λ p. record { from = d.invocation; to = u.invocation; label = process p }) (sym own)
      ∙ ap (λ n. record { from = n; to = u.invocation; label = process t.process }) (sym parts.invocation) ∙ ap (edge t u) is_label ∙ found.2 in
      subst (λ e. In e (edges_to Process (all_before done u))) same
      (in_mapped (process_edge u.process u.invocation) (predecessor_of d) (map predecessor_of (filter test done))
      (in_mapped predecessor_of d (filter test done)
      (in_filtered test d done (inside_from t d first before.1)
      (and_from (is_earlier u d) (d.process == u.process) (earlier_from t u d before.1 before.2 apart) (eq-eqb d.process u.process (sym parts.process ∙ own))))))

  here : (level : Level) (t u : Transaction) (e : Edge) → In t ts → (t.invocation == u.invocation) ≡ false → In e (map (edge t u) (order_labels level t u)) → In e (edges_to level (all_before done u))
  here Plain t u e first apart i = elim i [ ]
  here Process t u e first apart i = process_here t u e first apart i
  here Realtime t u e first apart i = realtime_here t u e first apart i

  pub has_all : HasEdges (map (all_before done) ts) (λ level. all_order_edges level ts)
  has_all level e = (
    λ c. (let one = in_some (edges_to level) e (map (all_before done) ts) (in_from_Contains e (edges_of level (map (all_before done) ts)) c) in
        let u = in_map (all_before done) one.0 ts one.1 in
        Contains_from_in e (all_order_edges level ts) (there level u.0 e u.1 (subst (λ b. In e (edges_to level b)) (sym u.2) one.2))),
    λ c. (let from : Comes ts (order_labels level) e = comes_from ts (order_labels level) e (in_from_Contains e (all_order_edges level ts) c) in
        Contains_from_in e (edges_of level (map (all_before done) ts))
        (in_each (edges_to level) e (all_before done from.1) (map (all_before done) ts) (in_mapped (all_before done) from.1 ts from.3)
        (here level from.0 from.1 e from.2 from.4 from.5))),
  )

pub names_all : (done : List Completed) (ts : List Transaction) → names (map (all_before done) ts) ≡ map name_of ts
names_all done [] = refl
names_all done (t ∷ ts) = ap (λ ns. (t.process, t.invocation) ∷ ns) (names_all done ts)

pub all_distinct : (done : List Completed) (ts : List Transaction) → AreApart done → All NoPredecessorTwice (map (all_before done) ts)
all_distinct done ts apart =
    All-from_recursion NoPredecessorTwice (map (all_before done) ts) (all_from NoPredecessorTwice (map (all_before done) ts) (λ b i.
    let u = in_map (all_before done) b ts i in
    subst NoPredecessorTwice u.2 (
      distinct_passing (λ (d : Completed). is_earlier u.0 d && (d.process == u.0.process)) done (apart_from done apart),
      distinct_passing (is_earlier u.0) done (apart_from done apart),
    )))
