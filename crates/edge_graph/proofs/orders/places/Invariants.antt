-- The transactions so far have their places, at indexes below the next invocation.
use Rattle.edge_graph.proofs.Placed.{ArePlacedFirst}
use Rattle.edge_graph.proofs.orders.places.Given as goal

abbrev pub invariant-loop-place : goal.invariant-loop-place
invariant-loop-place l = ArePlacedFirst l.txns l.place l.places.items
