use Rattle.edge_graph.proofs.EdgeArcs.{more_at_level, more_than_plain}
use Rattle.edge_graph.proofs.laws.arcs_of_more_dependencies.Goals as goal

pub returns : goal.returns
returns c = record { level = more_at_level; plain = more_than_plain }
