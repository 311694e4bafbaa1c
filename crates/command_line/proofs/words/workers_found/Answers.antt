use Rattle.std.proofs.Common.{◌∙◌, option_map, sym, ap}
use Rattle.std.specs.Borrow.{Bor}
use Rattle.std.specs.Prelude.{ℕ, List, option_and_then}
use Rattle.clap.specs.Words.{found_of}
use Rattle.command_line.specs.Lines.{workers_in}
use Rattle.command_line.proofs.Found.{workers_found}
use Rattle.command_line.proofs.words.workers_found.Goals as goal

pub returns-in_err-get_str : goal.returns-in_err-get_str
returns-in_err-get_str c =
    let none = ap (λ r. option_and_then workers_in (option_map (λ (text : Bor (List ℕ)). text.now) r)) c.in_err-get_str.was in
    c.from_residual.ensures ∙ (sym none ∙ workers_found (found_of c.args.check.now) c.get_str.result c.get_str.ensures)

pub returns : goal.returns
returns c =
    let some = ap (λ r. option_and_then workers_in (option_map (λ (text : Bor (List ℕ)). text.now) r)) c.in_ok-get_str.was in
    c.number_to.ensures ∙ (sym some ∙ workers_found (found_of c.args.check.now) c.get_str.result c.get_str.ensures)
