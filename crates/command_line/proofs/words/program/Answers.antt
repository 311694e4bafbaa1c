use Rattle.std.proofs.Common.{ap, ap₂, codes, ◌≡◌, ◌∙◌}
use Rattle.std.proofs.lemmas.Result.{IfOk-weaker}
use Rattle.clap.specs.Simple.{app_of_fields}
use Rattle.clap.specs.Words.{App, app_of, new_app, with_subcommand}
use Rattle.command_line.specs.Lines.{with_required}
use Rattle.command_line.proofs.words.program.Goals as goal

pub returns : goal.returns
returns c =
    let edges = c.in_ok-edges_command.ensures in
    let check = c.in_ok-check_command.ensures in
    let serve = c.in_ok-serve_command.ensures in
    let required : app_of c.subcommand_required.result ≡ with_required (new_app (codes "jepcheck")) =
    ap app_of_fields c.subcommand_required.ensures ∙ ap with_required c.new.ensures.app in
    let first : app_of c.in_ok-subcommand.field-0 ≡ with_subcommand (with_required (new_app (codes "jepcheck"))) (new_app (codes "reads")).top =
    c.in_ok-subcommand.ensures.shape c.new-2.ensures.local ∙ ap₂ with_subcommand required (ap (λ (a : App). a.top) c.new-2.ensures.app) in
    let second = c.in_ok-subcommand-2.ensures.shape edges.1 ∙ ap₂ with_subcommand first (ap (λ (a : App). a.top) edges.0) in
    let third = c.in_ok-subcommand-3.ensures.shape check.1 ∙ ap₂ with_subcommand second (ap (λ (a : App). a.top) check.0) in
    IfOk-weaker c.subcommand-4.result _ _ (λ r h. h.shape serve.1 ∙ ap₂ with_subcommand third (ap (λ (a : App). a.top) serve.0)) c.subcommand-4.ensures
