use Rattle.std.proofs.lemmas.Result.{IfOk-weaker}
use Rattle.graph_search.specs.Graphs.{AreRanks}
use Rattle.edge_graph.specs.Kinds.{kinds_of}
use Rattle.edge_graph.specs.Vertices.{graph_by}
use Rattle.cycle_find.specs.Ranked.{AreRanksWithin}
use Rattle.cycle_find.specs.Sharing.{leaving}
use Rattle.cycle_find.proofs.RankedArcs.{ranks_within}
use Rattle.cycle_find.proofs.ranking.ranks_within.Goals as goal

pub returns : goal.returns
returns c =
    let g = c.args.graph.now in
    let kinds = kinds_of c.args.dependencies c.args.level in
    IfOk-weaker c.of_leaving.result (AreRanks (leaving (graph_by c.arcs.result) c.args.shared.now)) (AreRanksWithin g kinds c.args.coarse.now)
    (λ ranks are. ranks_within g kinds c.arcs.result c.args.coarse.now ranks c.args.shared.now c.arcs.ensures.arcs c.requires.coarse c.requires.shared are)
    c.of_leaving.ensures
