use Rattle.live_journal.proofs.OneHistory.{one_history, made_by_steps}
use Rattle.live_journal.proofs.laws.callers_have_one_history.Goals as goal

pub returns-clause-history : goal.returns-clause-history
returns-clause-history c = one_history

pub returns-clause-steps : goal.returns-clause-steps
returns-clause-steps c = made_by_steps
