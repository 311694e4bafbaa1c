-- There is none by way of the versions so far.
use Rattle.std.proofs.Common.{◌≡◌, ◌<◌, ℕ, length, get_or}
use Rattle.cycle_find.specs.TwoDependencies.{KeepsMarks, NoneBackBy}
use Rattle.cycle_find.proofs.two_dependencies.TwoDependencies.back_from.Given as goal

abbrev pub invariant-loop-version : goal.invariant-loop-version
invariant-loop-version l = record {
  length : length l.sources.marks.items ≡ length l.self.deps.now.txns;
  kept : KeepsMarks l.initial.sources l.sources;
  none : (k : ℕ) → k < l.version-index → NoneBackBy l.self l.initial.sources (get_or l.version-items k 0) l.to;
}
