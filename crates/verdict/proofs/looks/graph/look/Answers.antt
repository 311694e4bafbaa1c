use Rattle.verdict.proofs.Reports.{kept_order, made_order}
use Rattle.verdict.proofs.looks.graph.look.Goals as goal

pub look_over-requires-clause-order : goal.look_over-requires-clause-order
look_over-requires-clause-order c = kept_order c.args.deps.now c.args.tables.now c.requires.deps c.in-Some.order c.requires.tables c.in-Some.is

pub look_over-requires-in-None-clause-order : goal.look_over-requires-in-None-clause-order
look_over-requires-in-None-clause-order c =
    made_order c.args.deps.now c.args.tables.now c.requires.deps c.as_slice.result.now c.in_ok-order-in-None.order c.as_slice.ensures c.in_ok-order-in-None.ensures
