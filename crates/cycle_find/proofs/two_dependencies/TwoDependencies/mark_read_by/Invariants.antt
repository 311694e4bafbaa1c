-- The versions so far are marked.
use Rattle.std.proofs.Common.{◌≡◌, ◌<◌, ℕ, length, get_or}
use Rattle.cycle_find.specs.TwoDependencies.{IsIn, KeepsMarks}
use Rattle.cycle_find.proofs.two_dependencies.TwoDependencies.mark_read_by.Given as goal

abbrev pub invariant-loop-number : goal.invariant-loop-number
invariant-loop-number l = record {
  length : length l.read.marks.items ≡ length l.self.deps.now.table.versions;
  kept : KeepsMarks l.initial.read l.read;
  marked : (k : ℕ) → k < l.number-index → IsIn l.read (get_or l.numbers k 0);
}
