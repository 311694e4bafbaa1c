-- The lists have the successors among the transactions so far.
use Rattle.std.proofs.Common.{All}
use Rattle.edge_graph.specs.Runs.{lists_in, IsRunIn}
use Rattle.edge_graph.specs.Successors.{AreFirstSuccessors}
use Rattle.edge_graph.proofs.orders.turned.Given as goal

abbrev pub invariant-loop-place : goal.invariant-loop-place
invariant-loop-place l = record {
  runs : All (IsRunIn l.nodes.items) l.runs.items;
  lists : AreFirstSuccessors l.deps.txns l.order l.level l.place (lists_in l.nodes.items l.runs.items);
}
