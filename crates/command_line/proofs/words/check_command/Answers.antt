use Rattle.std.proofs.Common.{ap₂, codes, false, ◌||◌, ◌≡◌, ◌∙◌}
use Rattle.std.proofs.lemmas.Result.{IfOk-weaker}
use Rattle.clap.specs.Words.{app_of, new_app, with_rule}
use Rattle.clap.specs.declared.builder.command.Command.TheViews.{out-Command}
use Rattle.command_line.specs.Lines.{workers_rule}
use Rattle.command_line.proofs.words.check_command.Goals as goal

pub returns : goal.returns
returns c =
    let option = c.keys_option.ensures in
    let workers = c.workers_option.ensures in
    let first : app_of c.in_ok-arg.field-0 ≡ with_rule (new_app (codes "check")) workers_rule =
    c.in_ok-arg.ensures.shape workers.local ∙ ap₂ with_rule c.new.ensures.app workers.rule in
    let first_local : (out-Command c.in_ok-arg.field-0).has_globals ≡ false =
    c.in_ok-arg.ensures.globals ∙ ap₂ (λ a b. a || b) c.new.ensures.local workers.local in
    IfOk-weaker c.arg-2.result _ _
    (λ r h. (h.shape option.local ∙ ap₂ with_rule first option.rule, h.globals ∙ ap₂ (λ a b. a || b) first_local option.local))
    c.arg-2.ensures
