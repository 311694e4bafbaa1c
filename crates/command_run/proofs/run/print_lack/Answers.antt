use Rattle.std.proofs.Common.{◌≡◌, ◌∙◌}
use Rattle.command_run.specs.Statuses.{lack_line}
use Rattle.command_run.proofs.Outcomes.{lack_printed}
use Rattle.command_run.proofs.run.print_lack.Goals as goal

pub returns : goal.returns
returns g c =
    let bytes : c.deref.result.now ≡ lack_line c.args.lack = c.deref.ensures.0 ∙ c.refusal_line.ensures ∙ c.fault.ensures in
    lack_printed g.T.Sink c.args.lack c.print.result c.args.sink.now c.print.new.sink (rw bytes at c.print.ensures)
