-- What was added so far are the edges of the kinds among those so far.
use Rattle.std.proofs.Common.{◌≡◌, ◌++◌, filter}
use Rattle.edge_graph.specs.Kinds.{includes}
use Rattle.edge_graph.proofs.graph.add_dependencies.Given as goal

abbrev pub invariant-loop-edge : goal.invariant-loop-edge
invariant-loop-edge l =
    l.out.items ≡ l.initial.out.items ++ filter (λ e. includes l.kinds e.label) l.yielded
