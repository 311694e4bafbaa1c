-- The graph of a history over its thinned order.
use Rattle.std.specs.Prelude.{◌↔◌, ◌++◌, Contains}
use Rattle.hist_types.specs.Edges.{Edge, dependency_edges}
use Rattle.hist_types.specs.ThinnedOrder.{thinned_edges}
use Rattle.hist_types.specs.declared.types.Level.{Level}
use Rattle.order_frontier.specs.Predecessors.{AreOfEvents}
use Rattle.edge_graph.specs.Parts.{Parts, edges_in}

-- the graph of some events' transactions, with their dependency edges and at each level the thinned
-- order edges
pub record IsThinned (g : Parts) : Type 0 where
  pub events : AreOfEvents g.txns
  pub edges :
      (level : Level) (e : Edge)
      → Contains (edges_in g level) e
      ↔ Contains (dependency_edges g.keys g.txns ++ thinned_edges level g.txns) e
