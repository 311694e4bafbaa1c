use Rattle.order_frontier.proofs.FrontSize.{few_members}
use Rattle.order_frontier.proofs.laws.frontiers_are_small.Goals as goal

pub returns : goal.returns
returns c = λ events ps front. few_members events ps front
