-- The followers so far are there.
use Rattle.std.proofs.Common.{◌<◌, ℕ, length, get_or, All, Contains}
use Rattle.flat_groups.specs.Groups.{IsNumbered}
use Rattle.cycle_find.specs.Tasks.{Includes}
use Rattle.cycle_find.proofs.two_dependencies.TwoDependencies.add_followers.Given as goal

abbrev pub invariant-loop-follower : goal.invariant-loop-follower
invariant-loop-follower l = record {
  numbered : All (IsNumbered (length l.self.deps.now.txns)) l.pairs.items;
  kept : Includes l.initial.pairs.items l.pairs.items;
  added : (k : ℕ) → k < l.follower-index → Contains l.pairs.items ((get_or l.follower-items k (record { txn = 0; version = 0 })).txn, l.version);
}
