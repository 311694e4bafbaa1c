use Rattle.edge_graph.proofs.EdgeArcs.{arc_of_ww, arc_of_wr, way_of_rw}
use Rattle.edge_graph.proofs.laws.arcs_of_edges.Goals as goal

pub returns : goal.returns
returns c = record { ww = arc_of_ww; wr = arc_of_wr; rw = way_of_rw }
