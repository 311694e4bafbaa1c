use Rattle.edge_graph.specs.Kinds.{kinds_of}
use Rattle.cycle_find.proofs.RankedArcs.{ranks_within}
use Rattle.cycle_find.proofs.ranking.far_and_late.Goals as goal

pub returns-clause-far : goal.returns-clause-far
returns-clause-far c =
    ranks_within c.args.graph.now (kinds_of c.args.dependencies c.args.level) c.arcs.result c.args.coarse.now c.in_ok-far.far c.args.shared.now c.arcs.ensures.arcs c.requires.coarse c.requires.shared c.in_ok-far.ensures

pub returns-clause-late : goal.returns-clause-late
returns-clause-late c =
    ranks_within c.args.graph.now (kinds_of c.args.dependencies c.args.level) c.arcs.result c.args.coarse.now c.in_ok-late.late c.args.shared.now c.arcs.ensures.arcs c.requires.coarse c.requires.shared c.in_ok-late.ensures
