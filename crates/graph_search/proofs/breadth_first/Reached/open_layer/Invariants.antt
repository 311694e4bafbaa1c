-- What the vertices so far lead to is marked.
use Rattle.std.proofs.Common.{◌≡◌, length}
use Rattle.graph_search.specs.Graphs.{HasArcInto}
use Rattle.graph_search.proofs.Searching.{IsOpeningAll}
use Rattle.graph_search.proofs.breadth_first.Reached.open_layer.Given as goal

abbrev pub invariant-loop-at : goal.invariant-loop-at
invariant-loop-at g l = record {
  count : length l.self.marks ≡ length l.fn.self.marks;
  opening : IsOpeningAll (HasArcInto (g.G.Arcs.graph l.graph) (g.S.Vertices.members l.allowed)) (g.T.Vertices.members l.targets) (length l.fn.self.queue.items)
      l.fn.self.marks l.fn.self.queue.items l.from l.at l.self.marks l.self.queue.items;
}
