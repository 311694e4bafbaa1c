use Rattle.std.proofs.Common.{◌∙◌, length, arith, ap}
use Rattle.dep_edges.specs.Histories.{History}
use Rattle.cycle_find.proofs.Mutual.{none_by_versions}
use Rattle.cycle_find.proofs.two_dependencies.TwoDependencies.by_versions.Goals as goal

pub returns : goal.returns
returns c =
    let versions = c.versions-version-end.ensures.value ∙ ap (λ (h : History). length h.table.versions) c.history-history.ensures.history in
    none_by_versions c.args.self.now c.history-history.ensures.kept c.history-history.ensures.versions
    (λ version number. c.loop-version.invariant.none version (omega (arith, number, c.loop-version-test.false, versions)))
