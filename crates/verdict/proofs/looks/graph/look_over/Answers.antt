use Rattle.std.proofs.Common.{sym, subst}
use Rattle.std.proofs.lemmas.Result.{on_ok_weaker}
use Rattle.edge_graph.proofs.Orderings.{thinned_order}
use Rattle.verdict.specs.Graphs.{IsThinned}
use Rattle.verdict.proofs.Knowing.{right_over, right_from}
use Rattle.verdict.proofs.Searching.{thinned_graph}
use Rattle.verdict.proofs.looks.graph.look_over.Goals as goal

pub new-requires : goal.new-requires
new-requires c = thinned_order c.args.deps.now.txns c.args.order.now c.requires.order.0 c.requires.order.1 c.requires.order.2

pub settle_each-requires-clause-thinned : goal.settle_each-requires-clause-thinned
settle_each-requires-clause-thinned c =
    subst IsThinned (sym c.in_ok-ranked.ensures)
    (thinned_graph c.args.deps.now.table.keys c.args.deps.now.txns c.args.order.now c.in_ok-graph.graph c.requires.history c.requires.order c.in_ok-graph.ensures)

pub settle_each-requires-clause-right : goal.settle_each-requires-clause-right
settle_each-requires-clause-right c =
    let d = c.args.deps.now in
    right_over d.table.keys d.txns c.args.order.now c.in_ok-graph.graph c.in_ok-ranked.ranked c.in_ok-ranked.ensures c.in_ok-graph.ensures c.args.board.now c.requires.right

pub returns-clause-right : goal.returns-clause-right
returns-clause-right c =
    let d = c.args.deps.now in
    on_ok_weaker c.settle_each.result
    (right_from d.table.keys d.txns c.args.order.now c.in_ok-graph.graph c.in_ok-ranked.ranked c.in_ok-ranked.ensures c.in_ok-graph.ensures c.settle_each.new.board)
    c.settle_each.ensures.right
