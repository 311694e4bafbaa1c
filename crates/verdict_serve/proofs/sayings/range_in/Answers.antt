use Rattle.std.proofs.Common.{◌∙◌}
use Rattle.verdict_serve.proofs.Words.{range_of_one, range_of_two, range_of_three}
use Rattle.verdict_serve.proofs.sayings.range_in.Goals as goal

pub returns-in_err-word : goal.returns-in_err-word
returns-in_err-word c = c.from_residual.ensures ∙ range_of_one c.args.text.now c.in_err-word.ensures

pub returns-in_err-from : goal.returns-in_err-from
returns-in_err-from c =
    c.from_residual-in_err-from.ensures ∙ range_of_two c.args.text.now c.in_ok-word.word.now c.in_ok-word.rest.now c.in_ok-word.ensures c.in_err-from.ensures

pub returns : goal.returns
returns c =
    c.range_by.ensures
    ∙ range_of_three c.args.text.now c.in_ok-word.word.now c.in_ok-word.rest.now c.in_ok-from.from.now c.in_ok-from.to.now c.in_ok-word.ensures c.in_ok-from.ensures
