use Rattle.command_run.proofs.Reporting.{report_answers}
use Rattle.command_run.proofs.run.judge.Goals as goal

pub returns-clause-ok : goal.returns-clause-ok
returns-clause-ok g c =
    let read = c.in_ok-judged.ensures.ok in
    let answer = c.in_ok-report_on.field-0 in
    (read.0, read.1, report_answers read.0 answer.printed.items c.in_ok-judged.judged.core.events read.2 c.args.command answer.status c.in_ok-report_on.ensures.ok)
