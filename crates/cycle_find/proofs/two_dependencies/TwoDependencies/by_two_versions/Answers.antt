use Rattle.std.proofs.Common.{◌∙◌, length, arith, below_more, ap, sym}
use Rattle.dep_edges.specs.Histories.{History}
use Rattle.cycle_find.specs.TwoDependencies.{NoneByTwo}
use Rattle.cycle_find.proofs.Mutual.{none_by_two, two_otherwise}
use Rattle.cycle_find.proofs.two_dependencies.TwoDependencies.by_two_versions.Goals as goal

pub loop-version-preserved : goal.loop-version-preserved
loop-version-preserved c =
    let search = c.args.self.now in
    record {
      length = c.by_version_and_back.ensures.marks;
      none =
          below_more (NoneByTwo search) c.loop-version.version c.loop-version.invariant.none
          (two_otherwise search (NoneByTwo search c.loop-version.version) c.in_ok-found.found (sym c.is_some.ensures ∙ c.if-is_some.false) c.in_ok-found.ensures.found);
    }

pub returns : goal.returns
returns c =
    let versions = c.versions-version-end.ensures.value ∙ ap (λ (h : History). length h.table.versions) c.history-history.ensures.history in
    none_by_two c.args.self.now c.history-history.ensures.kept c.history-history.ensures.versions c.requires
    (λ version number. c.loop-version.invariant.none version (omega (arith, number, c.loop-version-test.false, versions)))
