use Rattle.std.proofs.Common.{sym, subst}
use Rattle.graph_search.specs.Graphs.{IsWalk}
use Rattle.edge_graph.specs.Kinds.{kinds_of}
use Rattle.edge_graph.specs.Vertices.{IsArc}
use Rattle.edge_graph.proofs.EdgeArcs.{walk_of}
use Rattle.edge_graph.proofs.laws.walks_of_costs.Goals as goal

pub returns : goal.returns
returns c =
    λ g d level most from to walk is.
    subst (IsWalk (IsArc g (kinds_of d level)) from to) (sym is.vertices) (walk_of g (kinds_of d level) most from is.rest to is.leads)
