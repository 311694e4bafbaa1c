use Rattle.edge_graph.proofs.EdgesIn.{listed, plain, levels}
use Rattle.edge_graph.proofs.laws.edges_listed.Goals as goal

pub returns : goal.returns
returns c = record { listed = listed; plain = plain; levels = levels }
