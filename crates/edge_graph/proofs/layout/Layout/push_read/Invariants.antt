-- What was added so far are the vertices of the versions so far.
use Rattle.std.proofs.Common.{◌≡◌, ◌+◌, ◌++◌, length, take, map}
use Rattle.edge_graph.proofs.layout.Layout.push_read.Given as goal

abbrev pub invariant-loop-version : goal.invariant-loop-version
invariant-loop-version l =
    l.out.items ≡ l.initial.out.items ++ map (λ k. length l.self.history.now.txns + k) (take l.version-index l.version-items)
