-- What the arcs so far lead to is marked.
use Rattle.graph_search.proofs.Opening.{IsOpening}
use Rattle.graph_search.proofs.breadth_first.Reached.open.Given as goal

abbrev pub invariant-loop-index : goal.invariant-loop-index
invariant-loop-index g l =
    IsOpening (g.G.Arcs.graph l.graph) (g.S.Vertices.members l.allowed) (g.T.Vertices.members l.targets) l.fn.self.marks l.fn.self.queue.items l.vertex l.at l.index l.self.marks l.self.queue.items
