use Rattle.std.proofs.lemmas.Result.{IfOk-weaker}
use Rattle.graph_search.specs.Graphs.{AreRanks}
use Rattle.edge_graph.specs.Kinds.{kinds_of}
use Rattle.edge_graph.specs.Vertices.{graph_by}
use Rattle.cycle_find.specs.Ranked.{AreRanksOver}
use Rattle.cycle_find.proofs.RankedArcs.{ranks_over}
use Rattle.cycle_find.proofs.ranking.ranks_over.Goals as goal

pub returns : goal.returns
returns c =
    let g = c.args.graph.now in
    let kinds = kinds_of c.args.dependencies c.args.level in
    IfOk-weaker c.of.result (AreRanks (graph_by c.arcs.result)) (AreRanksOver g kinds)
    (λ ranks are. ranks_over g kinds c.arcs.result ranks c.arcs.ensures.arcs are)
    c.of.ensures
