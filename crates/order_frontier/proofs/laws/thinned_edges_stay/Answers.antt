use Rattle.order_frontier.proofs.Settled.{edges_stay}
use Rattle.order_frontier.proofs.laws.thinned_edges_stay.Goals as goal

pub returns : goal.returns
returns c = edges_stay
