-- What was added so far are the edges to the places so far.
use Rattle.std.proofs.Common.{◌≡◌, ◌++◌, take}
use Rattle.edge_graph.specs.Made.{order_edges_over}
use Rattle.edge_graph.proofs.graph.add_order_edges.Given as goal

abbrev pub invariant-loop-place : goal.invariant-loop-place
invariant-loop-place l =
    l.out.items ≡ l.initial.out.items ++ order_edges_over l.txns l.level l.from (take l.place-index l.places)
