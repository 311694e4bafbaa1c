use Rattle.order_frontier.proofs.Thinnings.{thinning_failed, thinning_idle}
use Rattle.order_frontier.proofs.laws.other_completions_change_nothing.Goals as goal

pub returns : goal.returns
returns c = record { failed = thinning_failed; idle = thinning_idle }
