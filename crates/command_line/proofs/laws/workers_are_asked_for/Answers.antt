use Rattle.command_line.proofs.Parses.{check_with_workers}
use Rattle.command_line.proofs.laws.workers_are_asked_for.Goals as goal

pub returns-clause-apart : goal.returns-clause-apart
returns-clause-apart c = λ name. (check_with_workers name).0

pub returns-clause-joined : goal.returns-clause-joined
returns-clause-joined c = λ name. (check_with_workers name).1

pub returns-clause-keys : goal.returns-clause-keys
returns-clause-keys c = λ name. (check_with_workers name).2
