use Rattle.std.proofs.Common.{length, ap, arith, below_more}
use Rattle.std.proofs.lemmas.Bool.{OnTrue_at}
use Rattle.dep_edges.specs.Histories.{History}
use Rattle.dep_edges.specs.Tables.{version_at}
use Rattle.clean_order.specs.AtVersions.{KeepsAt}
use Rattle.clean_order.proofs.ByVersion.{dependency_kept}
use Rattle.clean_order.proofs.keeping.keeps_dependencies.Goals as goal

pub loop-number-preserved : goal.loop-number-preserved
loop-number-preserved c =
    let d : History = c.args.deps.now in
    let starts = c.args.starts.now in
    let commits = c.args.commits.now in
    below_more (λ number. KeepsAt d c.args.kinds starts commits (version_at d.table number))
    c.loop-number.number c.loop-number.invariant
    (OnTrue_at c.if-not-keeps_at.false c.keeps_at.ensures)

pub returns : goal.returns
returns c =
    let d : History = c.args.deps.now in
    let many = ap (λ (h : History). length h.table.versions) c.history-history.ensures.history in
    λ ends. dependency_kept d c.args.kinds c.args.starts.now c.args.commits.now ends c.history-history.ensures.kept c.history-history.ensures.versions
    (λ number within. c.loop-number.invariant number (omega (arith, within, c.loop-number-test.false, c.versions-number-end.ensures.value, many)))
