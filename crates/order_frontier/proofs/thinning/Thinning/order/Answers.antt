use Rattle.std.proofs.Common.{sym, subst}
use Rattle.order_frontier.specs.Thinnings.{IsThinningOf}
use Rattle.order_frontier.proofs.Thinnings.{thinned_order}
use Rattle.order_frontier.proofs.thinning.Thinning.order.Goals as goal

pub returns : goal.returns
returns c = λ events is. thinned_order events _ (subst (IsThinningOf events) (sym c.self.view_is) is)
