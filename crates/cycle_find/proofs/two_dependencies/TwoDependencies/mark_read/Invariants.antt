-- What the followers so far read is marked.
use Rattle.std.proofs.Common.{◌≡◌, ◌<◌, ℕ, length, get_or}
use Rattle.cycle_find.specs.TwoDependencies.{IsReadMarked}
use Rattle.cycle_find.proofs.two_dependencies.TwoDependencies.mark_read.Given as goal

abbrev pub invariant-loop-follower : goal.invariant-loop-follower
invariant-loop-follower l = record {
  length : length l.read.marks.items ≡ length l.self.deps.now.table.versions;
  marked : (k : ℕ) → k < l.follower-index → IsReadMarked l.self (get_or l.follower-items k (record { txn = 0; version = 0 })).txn l.read;
}
