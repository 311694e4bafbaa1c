use Rattle.history_laws.proofs.OrderEdges.{order_edges-all, order_edges-leave, order_edges-lead, order_edges-between}
use Rattle.history_laws.proofs.order_edges_between_nodes.Goals as goal

pub returns : goal.returns
returns c = record {
  all = order_edges-all;
  first = order_edges-leave;
  second = order_edges-lead;
  kept = order_edges-between;
}
