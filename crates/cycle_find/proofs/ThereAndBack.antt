-- Two edges, there and back, are a walk that shows a phenomenon with the fewest dependency edges.
use Rattle.std.proofs.Common.{◌≡◌, ◌∙◌, ◌≤◌, ◌+◌, ℕ, List, [], ◌∷◌, if◌then◌else◌, true, false, not, inl, inr, Contains, refl, sym, ap, subst, arith}
use Rattle.std.proofs.lemmas.Bool.{false≢true, and_from, not_from_false, ne_eqb}
use Rattle.std.proofs.lemmas.List.Elements.{All-cons, All-nil}
use Rattle.hist_types.specs.Edges.{Label, ww, wr, rw, process, realtime, Edge, edge, dependency_edges, order_edges, order_labels, edges_at}
use Rattle.hist_types.specs.Phenomena.{Shows, is_rw_label, is_rw, is_order}
use Rattle.hist_types.specs.ThinnedOrder.{is_ordered}
use Rattle.hist_types.specs.Transactions.{Transaction, is_node, nodes}
use Rattle.hist_types.specs.Witness.{dependencies_in}
use Rattle.hist_types.specs.declared.types.KeyOrder.{KeyOrder}
use Rattle.hist_types.specs.declared.types.Level.{Level}
use Rattle.hist_types.specs.declared.types.Level.TheVariants.{Plain, Process}
use Rattle.hist_types.specs.declared.types.Phenomenon.{Phenomenon}
use Rattle.hist_types.specs.declared.types.Phenomenon.TheVariants.{G0, G1c, GSingle, G2Item}
use Rattle.hist_types.proofs.Members.{In, in_from_Contains, Contains_from_in, in_front, in_back, in_append, in_filtered}
use Rattle.history_laws.specs.WaysBack.{is_needed, may_lead_back}
use Rattle.history_laws.proofs.Fewest.{some_dependency}
use Rattle.history_laws.proofs.ThinningCycles.{closed_by_edge}
use Rattle.history_laws.proofs.OrderEdges.{order_edges-between}
use Rattle.history_laws.proofs.ThinningPaths.{ends_of}
use Rattle.history_laws.proofs.ThinningWalks.{count_yes, count_no}
use Rattle.history_laws.proofs.ThinningWitnesses.{is_dependency, dependency_edge}
use Rattle.dep_edges.specs.Histories.{AreOfHistory, History}
use Rattle.dep_edges.specs.OutEdges.{AddsEdgesFrom}
use Rattle.dep_edges.specs.Tables.{IsPlace, txn_at}
use Rattle.edge_graph.specs.Kinds.{AreAmong, includes, kinds_of}
use Rattle.edge_graph.specs.declared.types.Dependencies.{Dependencies}
use Rattle.edge_graph.specs.declared.types.Dependencies.TheVariants.{Rw}
use Rattle.edge_graph.specs.declared.types.Kinds.{Kinds}
use Rattle.edge_graph.proofs.Txns.{txn_in}
use Rattle.cycle_find.specs.Dependencies.{needed, way_back}
use Rattle.cycle_find.specs.Found.{ShowsByFewest}
use Rattle.cycle_find.specs.Single.{IsDependencyBetween, IsProcessEdgeBetween}
use Rattle.cycle_find.proofs.ClosedByOrder.{invoked_before}
use Rattle.cycle_find.proofs.Closing.{back_kind}
use Rattle.cycle_find.proofs.OrderBack.{all_nodes}
use Rattle.cycle_find.proofs.TwoEdges.{all_counted, two_at_least}

-- ---- kinds

needed_label :
    (phenomenon : Phenomenon) (from to : ℕ) (label : Label)
    → includes (kinds_of (needed phenomenon) Plain) label ≡ true
    → is_order (record { from = from; to = to; label = label }) ≡ false
    → is_needed phenomenon (record { from = from; to = to; label = label }) ≡ true
needed_label G0 from to (ww a b) is other = refl
needed_label G0 from to (wr a) is other = absurd (false≢true is)
needed_label G0 from to (rw a b) is other = absurd (false≢true is)
needed_label G1c from to (ww a b) is other = absurd (false≢true is)
needed_label G1c from to (wr a) is other = refl
needed_label G1c from to (rw a b) is other = absurd (false≢true is)
needed_label GSingle from to (ww a b) is other = absurd (false≢true is)
needed_label GSingle from to (wr a) is other = absurd (false≢true is)
needed_label GSingle from to (rw a b) is other = refl
needed_label G2Item from to (ww a b) is other = absurd (false≢true is)
needed_label G2Item from to (wr a) is other = absurd (false≢true is)
needed_label G2Item from to (rw a b) is other = refl
needed_label phenomenon from to (process n) is other = absurd (false≢true (sym other))
needed_label phenomenon from to (realtime m n) is other = absurd (false≢true (sym other))

among_label :
    (few more : Dependencies) → AreAmong few more → (label : Label)
    → includes (kinds_of few Plain) label ≡ true
    → includes (kinds_of more Plain) label ≡ true
among_label few more among (ww a b) is = among.ww is
among_label few more among (wr a) is = among.wr is
among_label few more among (rw a b) is = among.rw is
among_label few more among (process n) is = refl
among_label few more among (realtime m n) is = refl

-- ---- two edges

module _ (es : List Edge) (e back : Edge) (among : Contains es e) (among_back : Contains es back) (meets : back.from ≡ e.to) (closes : back.to ≡ e.from) where
  by_fewest :
      (phenomenon : Phenomenon) → is_needed phenomenon e ≡ true → may_lead_back phenomenon back ≡ true
      → (n : ℕ) → dependencies_in (e ∷ back ∷ []) ≡ n → ((walk : List Edge) → Shows phenomenon es walk → n ≤ dependencies_in walk)
      → ShowsByFewest phenomenon es (e ∷ back ∷ [])
  by_fewest phenomenon needs may n count least = record {
    shows =
        closed_by_edge phenomenon es e (back ∷ []) among needs (record {
          leads = (meets, closes);
          within = All-cons (Contains es) back [] among_back (All-nil (Contains es));
          kinds = and_from (may_lead_back phenomenon back) true may refl;
        });
    fewest = λ walk shown. omega (arith, count, least walk shown);
  }

-- ---- edges of a history

abbrev process_edge : (from to number : ℕ) → Edge
process_edge from to number = record { from = from; to = to; label = process number }

pub same_edge :
    (t u : Transaction) (from to number : ℕ) → from ≡ t.invocation → to ≡ u.invocation → number ≡ t.process → process_edge from to number ≡ edge t u (process t.process)
same_edge t u from to number begins ends same =
    ap (λ n. process_edge n to number) begins ∙ ap (λ n. process_edge t.invocation n number) ends ∙ ap (process_edge t.invocation u.invocation) same

module _ (h : History) where
  abbrev keys : KeyOrder
  keys = h.table.keys

  abbrev ts : List Transaction
  ts = h.txns

  -- what leaves the transaction at the one place and leads to that at the other
  pub leaving :
      (kinds : Kinds) (from to : ℕ) (es : List Edge) (e : Edge) → AddsEdgesFrom keys ts (txn_at ts from) [] es → Contains es e → e.to ≡ (txn_at ts to).invocation → includes kinds e.label ≡ true
      → IsDependencyBetween h kinds from to e
  leaving kinds from to es e (found, same, are) among ends kind =
      let (depends, begins) = (are.exactly e).0 (subst (λ (es : List Edge). Contains es e) same among) in
      record { among = depends; kind = kind; joins = record { begins = begins; ends = ends } }

  pub ordered :
      AreOfHistory ts → (from to : ℕ) → IsPlace ts from → IsPlace ts to → is_ordered Process (txn_at ts from) (txn_at ts to) ≡ true → is_node ts (txn_at ts to) ≡ true
      → IsProcessEdgeBetween ts from to (edge (txn_at ts from) (txn_at ts to) (process (txn_at ts from).process))
  ordered kept from to first last before node =
      let t = txn_at ts from in
      let u = txn_at ts to in
      let i = txn_in ts from first in
      let low = invoked_before ts (all_nodes ts kept) Process t u i before in
      let labelled : In (process t.process) (order_labels Process t u) = subst (λ b. In (process t.process) (if b then process t.process ∷ [] else [])) (sym before) (inl refl) in
      record {
        among =
            order_edges-between Process ts t u (process t.process) (Contains_from_in t ts i) (Contains_from_in u (nodes ts) (in_filtered (is_node ts) u ts (txn_in ts to last) node))
            (ne_eqb t.invocation u.invocation (λ same. omega (arith, low, same))) (Contains_from_in _ _ labelled);
        label = refl;
        joins = record { begins = refl; ends = refl };
      }

  pub depend : (e : Edge) → In e (edges_at keys Plain ts) → In e (dependency_edges keys ts)
  depend e i = elim (in_append e (dependency_edges keys ts) (order_edges Plain ts) i) [
    | inl j ↦ j
    | inr j ↦
        let (t, u, label, ends) = ends_of (nodes ts) (order_labels Plain) e j in
        absurd ends.labelled
  ]

  among_all : (level : Level) (e : Edge) → Contains (dependency_edges keys ts) e → Contains (edges_at keys level ts) e
  among_all level e among = Contains_from_in e _ (in_front e (dependency_edges keys ts) (order_edges level ts) (in_from_Contains e _ among))

  -- by dependency edges
  pub by_two :
      (phenomenon : Phenomenon) (by : Dependencies) (from to : ℕ) (e back : Edge)
      → AreAmong by (way_back phenomenon)
      → IsDependencyBetween h (kinds_of (needed phenomenon) Plain) from to e
      → IsDependencyBetween h (kinds_of by Plain) to from back
      → ShowsByFewest phenomenon (edges_at keys Plain ts) (e ∷ back ∷ [])
  by_two phenomenon by from to e back among goes returns =
      let es = edges_at keys Plain ts in
      let there = among_all Plain e goes.among in
      let here = among_all Plain back returns.among in
      let needs : is_needed phenomenon e ≡ true =
      needed_label phenomenon e.from e.to e.label goes.kind
      (dependency_edge keys ts e (in_from_Contains e _ goes.among)) in
      let may : may_lead_back phenomenon back ≡ true =
      back_kind phenomenon Plain back
      ∙ among_label by (way_back phenomenon) among back.label returns.kind in
      let two =
      all_counted keys ts es depend (e ∷ back ∷ [])
      (in_from_Contains e es there, (in_from_Contains back es here, tt)) in
      by_fewest es e back there here
      (returns.joins.begins ∙ sym goes.joins.ends) (returns.joins.ends ∙ sym goes.joins.begins)
      phenomenon needs may 2 two (two_at_least keys ts es depend phenomenon)

  -- by one, and the order of a process
  pub in_process :
      (from to : ℕ) (e back : Edge)
      → IsDependencyBetween h (kinds_of Rw Plain) from to e
      → IsProcessEdgeBetween ts to from back
      → ShowsByFewest GSingle (edges_at keys Process ts) (e ∷ back ∷ [])
  in_process from to e back is by_process =
      let es = edges_at keys Process ts in
      let there = among_all Process e is.among in
      let here = Contains_from_in back es (in_back back (dependency_edges keys ts) (order_edges Process ts) (in_from_Contains back _ by_process.among)) in
      let needs =
      needed_label GSingle e.from e.to e.label is.kind
      (dependency_edge keys ts e (in_from_Contains e _ is.among)) in
      let no_rw : is_rw back ≡ false = ap is_rw_label by_process.label in
      let order : is_order back ≡ true = subst (λ (label : Label). is_order (record { from = back.from; to = back.to; label = label }) ≡ true) (sym by_process.label) refl in
      let one = count_yes is_dependency e (back ∷ []) (ap not (dependency_edge keys ts e (in_from_Contains e _ is.among))) in
      let none = count_no is_dependency back [] (ap not order) in
      by_fewest es e back there here
      (by_process.joins.begins ∙ sym is.joins.ends) (by_process.joins.ends ∙ sym is.joins.begins)
      GSingle needs (not_from_false (is_rw back) no_rw) 1 (one ∙ ap (λ n. 1 + n) none)
      (λ walk shown. some_dependency GSingle es walk shown)
