use Rattle.std.proofs.Common.{ap₂, codes, false, ◌||◌, ◌≡◌, ◌∙◌}
use Rattle.std.proofs.lemmas.Result.{IfOk-weaker}
use Rattle.clap.specs.Words.{app_of, new_app, with_rule}
use Rattle.clap.specs.declared.builder.command.Command.TheViews.{out-Command}
use Rattle.command_line.specs.Lines.{cells_rule, keys_rule}
use Rattle.command_line.proofs.words.serve_command.Goals as goal

pub returns : goal.returns
returns c =
    let cells = c.cells_option.ensures in
    let option = c.keys_option.ensures in
    let paths = c.paths_argument.ensures in
    let first : app_of c.in_ok-arg.field-0 ≡ with_rule (new_app (codes "serve")) cells_rule =
    c.in_ok-arg.ensures.shape cells.local ∙ ap₂ with_rule c.new.ensures.app cells.rule in
    let first_local : (out-Command c.in_ok-arg.field-0).has_globals ≡ false =
    c.in_ok-arg.ensures.globals ∙ ap₂ (λ a b. a || b) c.new.ensures.local cells.local in
    let second : app_of c.in_ok-arg-2.field-0 ≡ with_rule (with_rule (new_app (codes "serve")) cells_rule) keys_rule =
    c.in_ok-arg-2.ensures.shape option.local ∙ ap₂ with_rule first option.rule in
    let second_local : (out-Command c.in_ok-arg-2.field-0).has_globals ≡ false =
    c.in_ok-arg-2.ensures.globals ∙ ap₂ (λ a b. a || b) first_local option.local in
    IfOk-weaker c.arg-3.result _ _
    (λ r h. (h.shape paths.local ∙ ap₂ with_rule second paths.rule, h.globals ∙ ap₂ (λ a b. a || b) second_local paths.local))
    c.arg-3.ensures
