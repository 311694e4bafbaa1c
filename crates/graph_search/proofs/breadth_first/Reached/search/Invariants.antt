-- All before the layer was opened.
use Rattle.std.proofs.Common.{◌≡◌, length}
use Rattle.graph_search.specs.Graphs.{HasArcInto}
use Rattle.graph_search.proofs.Searching.{IsLayered}
use Rattle.graph_search.proofs.breadth_first.Reached.search.Given as goal

abbrev pub invariant-loop-cost : goal.invariant-loop-cost
invariant-loop-cost g l = record {
  count : length l.self.marks ≡ length l.fn.self.marks;
  layered : IsLayered (HasArcInto (g.F.Arcs.graph l.free) (g.S.Vertices.members l.allowed)) (HasArcInto (g.P.Arcs.graph l.paid) (g.S.Vertices.members l.allowed))
      (g.T.Vertices.members l.targets) l.most l.from l._cost l.layer l.self.marks l.self.queue.items;
}
