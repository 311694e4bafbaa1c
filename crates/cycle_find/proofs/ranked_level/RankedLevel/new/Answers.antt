use Rattle.edge_graph.specs.declared.types.Dependencies.TheVariants.{All}
use Rattle.cycle_find.proofs.RankedArcs.{at_level}
use Rattle.cycle_find.proofs.ranked_level.RankedLevel.new.Goals as goal

pub invariant_of-result : goal.invariant_of-result
invariant_of-result c = record {
  at_all = c.requires.coarse;
  coarse_ranks = at_level c.args.graph.now All c.args.level c.args.coarse.now c.requires.coarse;
  sharing = c.requires.shared;
}
