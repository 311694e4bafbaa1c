use Rattle.block_reader.specs.declared.rounds.InputFault.TheVariants.{Text}
use Rattle.command_run.specs.Sources.{HasNoReport}
use Rattle.command_run.proofs.Inputs.{handed_on, unjudged}
use Rattle.command_run.proofs.judging.judged_of.Goals as goal

pub returns-in_err-judged-2-clause-err : goal.returns-in_err-judged-2-clause-err
returns-in_err-judged-2-clause-err g c =
    let source = c.args.source.now in
    let source' = c.read_source.new.source in
    let fault = c.in_err-judged-2.field-0.0 in
    let read = c.in_ok-judged.ensures.ok in
    let judged = rw c.in_err-judged-2.was at read.2 in
    handed_on (HasNoReport g.S.Source source source') (Text fault) c.from_residual-in_err-judged-2.result c.from_residual-in_err-judged-2.ensures.1
    (unjudged g.S.Source source source' read.0 fault read.1 judged)
