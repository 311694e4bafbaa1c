use Rattle.std.proofs.Common.{IfOk, sym, subst}
use Rattle.edge_graph.specs.Kinds.{kinds_of}
use Rattle.edge_graph.specs.Parts.{edges_in}
use Rattle.cycle_find.specs.Dependencies.{whole}
use Rattle.cycle_find.specs.Found.{IsFound}
use Rattle.cycle_find.specs.Ranked.{AreRanksOver}
use Rattle.cycle_find.specs.Tasks.{Site, Task}
use Rattle.cycle_find.proofs.RankedArcs.{at_level}
use Rattle.cycle_find.proofs.ranked_level.RankedLevel.find_direct.Goals as goal

pub ranks_within-requires-clause-coarse : goal.ranks_within-requires-clause-coarse
ranks_within-requires-clause-coarse c =
    let s = c.self.inside in
    at_level s.graph.now c.whole.result s.level s.coarse.now c.self.invariant.at_all

pub new-requires-clause-coarse : goal.new-requires-clause-coarse
new-requires-clause-coarse c =
    let s = c.self.inside in
    subst (AreRanksOver s.graph.now (kinds_of (whole c.args.phenomenon) s.level)) (sym c.alike-rankings.ensures.coarse)
    (at_level s.graph.now (whole c.args.phenomenon) s.level s.coarse.now c.self.invariant.at_all)

pub returns : goal.returns
returns c =
    subst (λ (site : Site). IfOk c.find.result (IsFound c.args.phenomenon (edges_in site.graph site.level))) c.self.view_is
    (subst (λ (task : Task). IfOk c.find.result (IsFound task.phenomenon (edges_in task.graph task.level))) c.new.ensures c.find.ensures)
