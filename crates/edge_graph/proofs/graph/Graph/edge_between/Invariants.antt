-- What is found is the best of the edges so far.
use Rattle.edge_graph.proofs.Between.{IsBest}
use Rattle.edge_graph.proofs.graph.Graph.edge_between.Given as goal

abbrev pub invariant-loop-edge : goal.invariant-loop-edge
invariant-loop-edge l = IsBest l.invocation l.yielded l.found
