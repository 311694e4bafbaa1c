use Rattle.command_run.proofs.Refuting.{refuted_by_status, refuted_by_line}
use Rattle.command_run.proofs.laws.refuted_histories_have_no_explanation.Goals as goal

pub returns-clause-status : goal.returns-clause-status
returns-clause-status c = refuted_by_status c.texts_have_one_reading.ensures.reading

pub returns-clause-line : goal.returns-clause-line
returns-clause-line c = refuted_by_line c.texts_have_one_reading.ensures.reading
