use Rattle.verdict.proofs.Reports.{refuted_by_tables}
use Rattle.verdict.proofs.verdict.Goals as goal

pub returns-clause-strict : goal.returns-clause-strict
returns-clause-strict g c =
    let events = c.as_events-events.result.now in
    let of = c.new.ensures.tables in
    refuted_by_tables events c.args.prefix.now c.new.result c.in_ok-verdict_from.field-0 of c.as_events-events.ensures (c.in_ok-verdict_from.ensures events of)
