use Rattle.std.proofs.Common.{subst}
use Rattle.hist_types.specs.Edges.{all_order_edges}
use Rattle.order_frontier.specs.Predecessors.{HasEdges}
use Rattle.order_frontier.proofs.all_pairs.Goals as goal

pub returns-clause-edges : goal.returns-clause-edges
returns-clause-edges c =
    subst (λ ts. HasEdges c.in_ok-all.field-0 (λ level. all_order_edges level ts)) c.as_slice.ensures c.in_ok-all.ensures.edges
