use Rattle.std.proofs.Common.{◌≡◌, length, arith, below_more, ap}
use Rattle.std.proofs.lemmas.Bool.{OnTrue_at}
use Rattle.cycle_find.specs.Ranked.{Ranking}
use Rattle.cycle_find.specs.Ways.{RisesFrom}
use Rattle.cycle_find.proofs.settle.RankedEdges.rise.Goals as goal

pub loop-from-preserved : goal.loop-from-preserved
loop-from-preserved c =
    below_more (RisesFrom c.args.self.now) c.loop-from.from c.loop-from.invariant (OnTrue_at c.if-not-rise_from.false c.rise_from.ensures)

pub returns : goal.returns
returns c =
    let count : length c.self.inside.graph.now.txns ≡ length c.args.self.now.graph.txns = ap (λ (r : Ranking). length r.graph.txns) c.self.view_is in
    λ from place. c.loop-from.invariant from (omega (arith, place, c.loop-from-test.false, c.len-from-end.ensures, count))
