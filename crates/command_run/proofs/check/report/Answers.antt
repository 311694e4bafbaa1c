use Rattle.std.proofs.Common.{◌≡◌, ◌∙◌, Option, IfSome, subst}
use Rattle.hist_types.specs.Reports.{Report, IsVerdictOf}
use Rattle.hist_types.specs.declared.types.KeyOrder.{KeyOrder}
use Rattle.verdict.specs.Tables.{IsVerdictFor, keys_in}
use Rattle.command_run.proofs.check.report.Goals as goal

pub returns-clause-ok : goal.returns-clause-ok
returns-clause-ok g c =
    let events = c.args.events.now in
    let keys : keys_in c.with_order-tables.result ≡ c.args.kept.keys = c.with_order-tables.ensures.keys ∙ c.in_ok-versions.ensures.keys in
    c.answer-2.ensures c.args.kept.keys events
    (subst (λ (k : KeyOrder). IsVerdictOf k events c.in_ok-verdict-2.verdict) keys
    (c.in_ok-verdict-2.ensures.ok events c.with_order-tables.ensures.tables))

pub returns-in-Some-clause-ok : goal.returns-in-Some-clause-ok
returns-in-Some-clause-ok g c =
    let keys = c.args.kept.keys in
    let events = c.args.events.now in
    let holds = IsVerdictFor keys c.len.result c.args.txns.now in
    let replayed : holds c.in-Some.verdict = subst (λ (verdict : Option Report). IfSome verdict holds) c.in-Some.is c.in_ok-verdict.ensures.ok in
    c.answer.ensures keys events (replayed events c.len.ensures.count c.requires.txns)
