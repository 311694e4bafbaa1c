use Rattle.command_run.proofs.SomeAnswer.{some_answer}
use Rattle.command_run.proofs.laws.an_answer_to_each_text.Goals as goal

pub returns : goal.returns
returns c = some_answer c.texts_have_one_reading.ensures.reading
