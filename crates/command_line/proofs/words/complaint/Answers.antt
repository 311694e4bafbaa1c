use Rattle.std.proofs.Common.{◌∙◌, ap, ◌++◌, codes}
use Rattle.command_line.proofs.FirstLines.{complaint_of}
use Rattle.command_line.proofs.words.complaint.Goals as goal

pub returns : goal.returns
returns c =
    let line = c.in_ok-text.ensures.ok ∙ c.first_line.ensures in
    let ended = c.in_ok-push_str.ensures.bytes ∙ ap (λ text. text ++ codes "\n") line in
    complaint_of c.args.message.now c.args.closing.now _ (c.in_ok-push_str-2.ensures.bytes ∙ ap (λ text. text ++ c.args.closing.now) ended)
