use Rattle.edge_graph.proofs.EdgesIn.{one_ww, one_wr, one_rw}
use Rattle.edge_graph.proofs.laws.edges_of_one_kind.Goals as goal

pub returns : goal.returns
returns c = record { ww = one_ww; wr = one_wr; rw = one_rw }
