use Rattle.edge_graph.proofs.Orderings.{order_of_pairs, thinned_order}
use Rattle.edge_graph.proofs.laws.orders_of_a_history.Goals as goal

pub returns : goal.returns
returns c = record { all_pairs = order_of_pairs; thinned = thinned_order }
