-- The arcs that leave the vertices so far have raised what they lead to.
use Rattle.std.proofs.Common.{◌≡◌, ◌<◌, ◌≤◌, ℕ, length, get_or}
use Rattle.edge_graph.specs.Vertices.{graph_by}
use Rattle.graph_search.specs.Graphs.{HasArc}
use Rattle.cycle_find.proofs.leading.last_leading.Given as goal

abbrev pub invariant-loop-from : goal.invariant-loop-from
invariant-loop-from l = record {
  one_each : length l.last.items ≡ length l.arcs;
  direct : (from to : ℕ) → from < l.from → from < l.places → HasArc (graph_by l.arcs) from to → from ≤ get_or l.last.items to 0;
  by_version :
      (from version to : ℕ) → version < l.from → from < l.places → ¬ (version < l.places) → HasArc (graph_by l.arcs) from version → HasArc (graph_by l.arcs) version to
      → from ≤ get_or l.last.items to 0;
}
