-- The edges so far lead to a transaction, which is the last vertex or reads the version that is, and are no more dependencies than
-- the walk so far costs.
use Rattle.std.proofs.Common.{◌-◌}
use Rattle.std.specs.Prelude.{slice_index}
use Rattle.dep_edges.specs.Tables.{IsPlace}
use Rattle.edge_graph.specs.Walks.{AreEdgesBetween}
use Rattle.hist_types.specs.Witness.{dependencies_in}
use Rattle.edge_graph.proofs.CheapWalks.{IsCheapTo}
use Rattle.edge_graph.proofs.WalkEdges.{IsReached}
use Rattle.edge_graph.proofs.graph.Graph.edges_along.Given as goal

abbrev pub invariant-loop-vertex : goal.invariant-loop-vertex
invariant-loop-vertex l =
    record {
      place : IsPlace l.self.txns l.from;
      so_far : AreEdgesBetween l.self l.kinds (slice_index l.walk 0) l.from l.edges.items;
      reached : IsReached l.self l.kinds l.from (slice_index l.walk (l.vertex-index - 1));
      cheap : IsCheapTo l.self l.fn.dependencies l.fn.level l.walk (l.vertex-index - 1) (dependencies_in l.edges.items);
    }
