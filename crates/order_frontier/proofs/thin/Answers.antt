use Rattle.std.proofs.Common.{subst}
use Rattle.order_frontier.specs.Predecessors.{HasThinnedEdges}
use Rattle.order_frontier.proofs.thin.Goals as goal

pub returns-clause-edges : goal.returns-clause-edges
returns-clause-edges c = subst (λ ts. HasThinnedEdges ts c.in_ok-thinned.field-0) c.as_slice.ensures c.in_ok-thinned.ensures.0
