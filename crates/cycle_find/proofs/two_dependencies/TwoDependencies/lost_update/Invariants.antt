-- There is a mark for each transaction.
use Rattle.std.proofs.Common.{◌≡◌, length}
use Rattle.cycle_find.proofs.two_dependencies.TwoDependencies.lost_update.Given as goal

abbrev pub invariant-loop-version : goal.invariant-loop-version
invariant-loop-version l = length l.readers.marks.items ≡ length l.self.deps.now.txns
