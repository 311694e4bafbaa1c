use Rattle.std.proofs.Common.{ap₂, ◌||◌, ◌∙◌}
use Rattle.std.proofs.lemmas.Result.{IfOk-weaker}
use Rattle.clap.specs.Words.{with_rule}
use Rattle.command_line.proofs.words.edges_command.Goals as goal

pub returns : goal.returns
returns c =
    let option = c.keys_option.ensures in
    IfOk-weaker c.arg.result _ _
    (λ r h. (h.shape option.local ∙ ap₂ with_rule c.new.ensures.app option.rule, h.globals ∙ ap₂ (λ a b. a || b) c.new.ensures.local option.local))
    c.arg.ensures
