use Rattle.edge_graph.specs.Kinds.{kinds_of}
use Rattle.edge_graph.proofs.EdgeArcs.{cheap_over}
use Rattle.edge_graph.proofs.laws.cheap_walks_over_arcs.Goals as goal

pub returns : goal.returns
returns c = λ g kept by_versions d level. cheap_over g kept by_versions (kinds_of d level)
