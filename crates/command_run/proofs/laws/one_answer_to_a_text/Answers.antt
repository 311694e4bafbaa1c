use Rattle.command_run.proofs.OneAnswer.{one_answer, one_refusal, one_verdict}
use Rattle.command_run.proofs.laws.one_answer_to_a_text.Goals as goal

pub returns-clause-status : goal.returns-clause-status
returns-clause-status c =
    λ command text status other printed others given too one two. (one_answer c.texts_have_one_reading.ensures.reading command text status other printed others given too one two).0

pub returns-clause-printed : goal.returns-clause-printed
returns-clause-printed c =
    λ command text status other printed others given too no_check one two. (one_answer c.texts_have_one_reading.ensures.reading command text status other printed others given too one two).1 no_check

pub returns-clause-refused : goal.returns-clause-refused
returns-clause-refused c = one_refusal c.texts_have_one_reading.ensures.reading

pub returns-clause-check : goal.returns-clause-check
returns-clause-check c = one_verdict c.texts_have_one_reading.ensures.reading
