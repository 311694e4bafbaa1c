use Rattle.verdict.specs.Tables.{keys_in}
use Rattle.verdict.proofs.Reports.{found_in, bad_reads_in}
use Rattle.verdict.proofs.wide.verdict_from_wide.Goals as goal

pub returns-clause-ok : goal.returns-clause-ok
returns-clause-ok g c = λ events of.
    let tables = c.args.tables.now in
    let deps = c.in_ok-deps.deps in
    c.in_ok-reported.ensures (keys_in tables) (found_in deps tables c.in_ok-deps.ensures.ok c.in_ok-findings.findings c.in_ok-findings.ensures)
    (bad_reads_in deps tables c.in_ok-deps.ensures.ok c.bad_reads-reads.result c.bad_reads-reads.ensures) events of.count of.txns
