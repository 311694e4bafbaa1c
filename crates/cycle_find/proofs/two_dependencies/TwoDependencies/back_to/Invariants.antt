-- There is none back by way of the versions so far.
use Rattle.std.proofs.Common.{◌≡◌, ◌<◌, ℕ, length, get_or}
use Rattle.cycle_find.specs.TwoDependencies.{KeepsMarks, NoneByMarked}
use Rattle.cycle_find.proofs.two_dependencies.TwoDependencies.back_to.Given as goal

abbrev pub invariant-loop-other : goal.invariant-loop-other
invariant-loop-other l = record {
  length : length l.read.marks.items ≡ length l.self.deps.now.table.versions;
  kept : KeepsMarks l.initial.read l.read;
  none : (k : ℕ) → k < l.other-index → NoneByMarked l.self l.initial.read l.version l.from (get_or l.others k 0);
}
