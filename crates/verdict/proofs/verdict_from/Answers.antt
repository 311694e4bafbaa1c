use Rattle.std.proofs.lemmas.Result.{IfOk-weaker}
use Rattle.hist_types.specs.Reports.{IsVerdictOf}
use Rattle.verdict.specs.Tables.{IsVerdictFor, keys_in}
use Rattle.verdict.proofs.Reports.{found_in, bad_reads_in}
use Rattle.verdict.proofs.verdict_from.Goals as goal

pub of-requires : goal.of-requires
of-requires c = (let (events, of) = c.requires in record { history = (events, of.rules, of.txns); versions = of.versions })

pub returns : goal.returns
returns c = λ events of.
    let tables = c.args.tables.now in
    let deps = c.in_ok-deps.deps in
    IfOk-weaker c.reported.result (IsVerdictFor (keys_in tables) tables.events tables.txns.now) (IsVerdictOf (keys_in tables) events)
    (λ v is. is events of.count of.txns)
    (c.reported.ensures (keys_in tables) (found_in deps tables c.in_ok-deps.ensures c.in_ok-findings.findings c.in_ok-findings.ensures)
    (bad_reads_in deps tables c.in_ok-deps.ensures c.bad_reads.result c.bad_reads.ensures))
