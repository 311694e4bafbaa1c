use Rattle.std.proofs.Common.{IfOk, subst}
use Rattle.edge_graph.specs.Parts.{edges_in}
use Rattle.edge_graph.specs.declared.types.Dependencies.TheVariants.{WrAndWw}
use Rattle.cycle_find.specs.Found.{IsFound}
use Rattle.cycle_find.specs.Tasks.{Site, Task}
use Rattle.hist_types.specs.declared.types.Phenomenon.TheVariants.{GSingle}
use Rattle.cycle_find.proofs.RankedArcs.{at_level, ranks_within_themselves}
use Rattle.cycle_find.proofs.ranked_level.RankedLevel.find_single.Goals as goal

pub ranks_within-requires-clause-coarse : goal.ranks_within-requires-clause-coarse
ranks_within-requires-clause-coarse c =
    let s = c.self.inside in
    at_level s.graph.now WrAndWw s.level s.coarse.now c.self.invariant.at_all

pub far_and_late-requires-clause-coarse : goal.far_and_late-requires-clause-coarse
far_and_late-requires-clause-coarse c =
    let s = c.self.inside in
    at_level s.graph.now WrAndWw s.level s.coarse.now c.self.invariant.at_all

pub new-finder-requires-clause-ranks : goal.new-finder-requires-clause-ranks
new-finder-requires-clause-ranks c =
    let s = c.self.inside in
    ranks_within_themselves s.graph.now _ s.coarse.now c.self.invariant.coarse_ranks

pub returns : goal.returns
returns c =
    subst (λ (site : Site). IfOk c.find.result (IsFound GSingle (edges_in site.graph site.level))) c.self.view_is
    (subst (λ (task : Task). IfOk c.find.result (IsFound task.phenomenon (edges_in task.graph task.level))) c.new-finder.ensures c.find.ensures)
