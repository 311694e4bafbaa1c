use Rattle.std.proofs.Common.{◌≡◌, ◌∙◌, ◌++◌, ◌∷◌, [], sym, ap, subst, map, take, List, All}
use Rattle.std.proofs.lemmas.List.{take_all, take_more, map-append}
use Rattle.hist_types.specs.Edges.{all_order_edges}
use Rattle.hist_types.specs.Transactions.{Transaction}
use Rattle.order_frontier.specs.Pairs.{all_before}
use Rattle.order_frontier.specs.Predecessors.{Before, HasEdges, NoPredecessorTwice, names}
use Rattle.order_frontier.proofs.AllPairs.{has_all, names_all, all_distinct}
use Rattle.order_frontier.proofs.Ranges.{pushed}
use Rattle.order_frontier.proofs.pairs.all.Goals as goal

pub loop-txn-preserved : goal.loop-txn-preserved
loop-txn-preserved c =
    let ts = c.args.txns.now in
    let k = c.loop-txn.txn-index in
    let t : Transaction = c.txn-item.result in
    let done = c.in_ok-done.done.items in
    let own = c.loop-txn.in_process.items in
    let own' = c.row_of.new.in_process.items in
    let others = c.loop-txn.in_realtime.items in
    let others' = c.row_of.new.in_realtime.items in
    let more = pushed own own' others others' c.loop-txn.rows.items c.push.new.self.items c.in_ok-row_of.field-0 (all_before done t) c.loop-txn.invariant.are.ranges
    (subst (λ ds. own' ≡ own ++ (all_before ds t).in_process) c.deref.ensures.value c.in_ok-row_of.ensures.in_process)
    (subst (λ ds. others' ≡ others ++ (all_before ds t).in_realtime) c.deref.ensures.value c.in_ok-row_of.ensures.in_realtime)
    c.in_ok-row_of.ensures.row c.in_ok-push.ensures.items in
    record {
      order =
          more.0 ∙ ap (λ bs. bs ++ all_before done t ∷ []) c.loop-txn.invariant.order
          ∙ sym (ap (map (all_before done)) (take_more ts k t c.loop-txn-test.true ∙ ap (λ x. take k ts ++ x ∷ []) (sym c.txn-item.is)) ∙ map-append (all_before done) (take k ts) (t ∷ []));
      are = more.1;
    }

whole : (c : goal.After-drop-done-2) → c.of_ranges.result ≡ map (all_before c.in_ok-done.done.items) c.args.txns.now
whole c =
    c.of_ranges.ensures
    ∙ c.loop-txn.invariant.order
    ∙ ap (map (all_before c.in_ok-done.done.items)) (take_all c.loop-txn.txn-index c.args.txns.now c.loop-txn-test.false)

pub returns-clause-edges : goal.returns-clause-edges
returns-clause-edges c =
    let ts = c.args.txns.now in
    let Holds : List Before → Type 0 = λ order. HasEdges order (λ level. all_order_edges level ts) in
    subst Holds (sym (whole c)) (has_all ts c.in_ok-done.done.items c.in_ok-done.ensures.all)

pub returns-clause-names : goal.returns-clause-names
returns-clause-names c = ap names (whole c) ∙ names_all c.in_ok-done.done.items c.args.txns.now

pub returns-clause-once : goal.returns-clause-once
returns-clause-once c =
    λ of. subst (All NoPredecessorTwice) (sym (whole c)) (all_distinct c.in_ok-done.done.items c.args.txns.now (c.in_ok-done.ensures.once of))
