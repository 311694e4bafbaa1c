use Rattle.std.proofs.Common.{◌≡◌, ◌∙◌}
use Rattle.hist_types.specs.Texts.{refusal_line}
use Rattle.command_run.specs.declared.answer.Status.TheVariants.{Refused}
use Rattle.command_run.proofs.Inputs.{refusal_answered, none_counted}
use Rattle.command_run.proofs.Outcomes.{answered_run, lack_run, source_failed}
use Rattle.command_run.proofs.run.run.Goals as goal

pub returns-in-Err-Device : goal.returns-in-Err-Device
returns-in-Err-Device g c =
    let failed = rw c.in-Err-Device.field-0-is at c.in-Err-Device.ensures.err in
    source_failed g.S.Source g.T.Sink c.args.command c.args.source.now c.judge.new.source c.args.sink.now failed

pub returns-in-None : goal.returns-in-None
returns-in-None g c =
    let fault = c.in-Err-Text.fault in
    let none = rw c.in-Err-Text.field-0-is at c.in-Err-Text.ensures.err in
    let bytes : c.deref-in-None.result.now ≡ refusal_line fault = c.deref-in-None.ensures.0 ∙ c.refusal_line.ensures in
    answered_run g.S.Source g.T.Sink c.args.command Refused c.print-in-None.result c.args.source.now c.judge.new.source
    c.args.sink.now c.print-in-None.new.sink c.deref-in-None.result.now
    (refusal_answered g.S.Source c.args.source.now c.judge.new.source fault _ none (c.lack_by.ensures c.in-None.is)
    (λ text refused. (fault, refused, bytes)))
    c.print-in-None.ensures

pub returns-in-Some : goal.returns-in-Some
returns-in-Some g c =
    let none = rw c.in-Err-Text.field-0-is at c.in-Err-Text.ensures.err in
    lack_run g.S.Source g.T.Sink c.args.command c.in-Some.lack c.print_lack.result c.args.source.now c.judge.new.source c.args.sink.now c.print_lack.new.sink
    (none_counted g.S.Source c.args.source.now c.judge.new.source c.in-Err-Text.fault none)
    c.print_lack.ensures
