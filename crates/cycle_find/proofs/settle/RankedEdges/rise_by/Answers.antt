use Rattle.std.proofs.Common.{subst}
use Rattle.std.proofs.lemmas.Bool.{OnTrue_at}
use Rattle.cycle_find.specs.Prepared.{AreRanked}
use Rattle.cycle_find.specs.Ranked.{Ranking}
use Rattle.cycle_find.proofs.Passing.{rises_above}
use Rattle.cycle_find.proofs.settle.RankedEdges.rise_by.Goals as goal

pub returns-then-is_above : goal.returns-then-is_above
returns-then-is_above c =
    let a = c.self.inside in
    let ranked : AreRanked c.args.self.now a.arcs = subst (λ (r : Ranking). AreRanked r a.arcs) c.self.view_is c.self.invariant in
    rises_above c.args.self.now a.arcs c.args.from c.args.by ranked c.requires.by (OnTrue_at c.if-is_above.true c.is_above.ensures)
