use Rattle.std.proofs.Common.{sym, ◌∙◌}
use Rattle.clean_order.specs.Shown.{ShowsNothing}
use Rattle.verdict.proofs.Reports.{nothing_found, no_bad_read}
use Rattle.verdict.proofs.verdict_by_replay.Goals as goal

pub returns-clause-ok : goal.returns-clause-ok
returns-clause-ok g c =
    let shown : ShowsNothing c.args.versions.now.keys c.as_slice.result.now = rw c.if-not-branch.false at c.in_ok-replays.ensures in
    let same = sym c.as_slice.ensures in
    c.in_ok-reported.ensures c.args.versions.now.keys
    (nothing_found c.args.txns.now c.as_slice.result.now same c.args.versions.now.keys c.none.result c.none.ensures shown.findings)
    (no_bad_read c.args.txns.now c.as_slice.result.now same c.none-reads.result shown.reads (shown.stray ∙ sym c.none-reads.ensures.stray) c.none-reads.ensures.g1a c.none-reads.ensures.g1b)
