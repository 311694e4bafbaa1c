use Rattle.edge_graph.proofs.EdgeArcs.{walk_over}
use Rattle.edge_graph.proofs.laws.walks_over_arcs.Goals as goal

pub returns : goal.returns
returns c = walk_over
