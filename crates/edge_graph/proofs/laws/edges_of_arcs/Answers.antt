use Rattle.edge_graph.proofs.EdgeArcs.{edge_of_direct, edge_of_way}
use Rattle.edge_graph.proofs.laws.edges_of_arcs.Goals as goal

pub returns : goal.returns
returns c = record { direct = edge_of_direct; rw = edge_of_way }
