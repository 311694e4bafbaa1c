use Rattle.command_line.proofs.Refused.{no_workers_at_all, too_many_workers, signed_workers, workers_left_out, edges_with_workers}
use Rattle.command_line.proofs.laws.no_workers_are_asked_for.Goals as goal

pub returns-clause-zero : goal.returns-clause-zero
returns-clause-zero c = no_workers_at_all

pub returns-clause-many : goal.returns-clause-many
returns-clause-many c = too_many_workers

pub returns-clause-sign : goal.returns-clause-sign
returns-clause-sign c = signed_workers

pub returns-clause-alone : goal.returns-clause-alone
returns-clause-alone c = workers_left_out

pub returns-clause-edges : goal.returns-clause-edges
returns-clause-edges c = edges_with_workers
