-- There is none from the readers so far.
use Rattle.std.proofs.Common.{◌≡◌, ◌<◌, ℕ, length, get_or}
use Rattle.cycle_find.specs.TwoDependencies.{AreReadMarked, NoneByTwoFrom}
use Rattle.cycle_find.proofs.two_dependencies.TwoDependencies.by_version_and_back.Given as goal

abbrev pub invariant-loop-reader : goal.invariant-loop-reader
invariant-loop-reader l = record {
  length : length l.read.marks.items ≡ length l.self.deps.now.table.versions;
  marked : AreReadMarked l.self l.version l.read;
  none : (k : ℕ) → k < l.reader-index → NoneByTwoFrom l.self l.version (get_or l.reader-items k 0);
}
