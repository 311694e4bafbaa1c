use Rattle.std.proofs.lemmas.Result.{IfOk-weaker}
use Rattle.hist_types.specs.Reports.{IsVerdictOf}
use Rattle.report_laws.specs.Explained.{RefutesExplanations}
use Rattle.verdict.specs.Tables.{keys_in}
use Rattle.verdict.proofs.Reports.{refuted_by_tables}
use Rattle.verdict.proofs.wide.verdict_wide.Goals as goal

pub returns-clause-strict : goal.returns-clause-strict
returns-clause-strict g c =
    let events = c.as_events-events.result.now in
    let of = c.new.ensures.tables in
    IfOk-weaker c.verdict_from_wide.result (IsVerdictOf (keys_in c.new.result) events) (RefutesExplanations c.args.prefix.now)
    (λ v is. refuted_by_tables events c.args.prefix.now c.new.result v of c.as_events-events.ensures is)
    (c.verdict_from_wide.ensures.ok events of)
