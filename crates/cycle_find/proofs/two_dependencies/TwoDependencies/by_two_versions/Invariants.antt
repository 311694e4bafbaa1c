-- There is none by way of the versions so far.
use Rattle.std.proofs.Common.{◌≡◌, ◌<◌, ℕ, length}
use Rattle.cycle_find.specs.TwoDependencies.{NoneByTwo}
use Rattle.cycle_find.proofs.two_dependencies.TwoDependencies.by_two_versions.Given as goal

abbrev pub invariant-loop-version : goal.invariant-loop-version
invariant-loop-version l = record {
  length : length l.read.marks.items ≡ length l.self.deps.now.table.versions;
  none : (k : ℕ) → k < l.version → NoneByTwo l.self k;
}
