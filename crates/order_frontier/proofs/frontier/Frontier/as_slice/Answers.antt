use Rattle.std.proofs.Common.{◌∙◌, sym, subst}
use Rattle.order_frontier.specs.Summaries.{IsSummaryOf}
use Rattle.order_frontier.proofs.Fronts.{are_frontier}
use Rattle.order_frontier.proofs.frontier.Frontier.as_slice.Goals as goal

pub returns : goal.returns
returns c =
    λ events is.
    let is' = subst (IsSummaryOf events) (sym c.self.view_is) is in
    are_frontier events c.frontier.result.now (c.frontier.ensures ∙ is'.state.kept.frontier)
