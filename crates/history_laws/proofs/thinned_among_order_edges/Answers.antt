use Rattle.history_laws.proofs.OrderEdges.{thinned_edges-order, all_thinned_edges-order}
use Rattle.history_laws.proofs.thinned_among_order_edges.Goals as goal

pub returns : goal.returns
returns c = record {
  nodes = thinned_edges-order;
  all = all_thinned_edges-order;
}
