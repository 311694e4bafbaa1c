-- There is none by way of the versions so far.
use Rattle.std.proofs.Common.{◌≡◌, ◌<◌, ℕ, length}
use Rattle.cycle_find.specs.TwoDependencies.{NoneBy}
use Rattle.cycle_find.proofs.two_dependencies.TwoDependencies.by_versions.Given as goal

abbrev pub invariant-loop-version : goal.invariant-loop-version
invariant-loop-version l = record {
  length : length l.sources.marks.items ≡ length l.self.deps.now.txns;
  none : (k : ℕ) → k < l.version → NoneBy l.self k;
}
