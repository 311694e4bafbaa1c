use Rattle.reading_laws.proofs.Runs.{run_of-all, run_of-ends}
use Rattle.reading_laws.proofs.runs_longest.Goals as goal

pub returns-clause-bytes : goal.returns-clause-bytes
returns-clause-bytes c = run_of-all

pub returns-clause-end : goal.returns-clause-end
returns-clause-end c = run_of-ends
