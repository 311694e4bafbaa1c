-- The followers of the versions so far are there.
use Rattle.std.proofs.Common.{◌<◌, ℕ, length, All}
use Rattle.flat_groups.specs.Groups.{IsNumbered}
use Rattle.cycle_find.specs.TwoDependencies.{HasFollowers}
use Rattle.cycle_find.proofs.two_dependencies.TwoDependencies.followed.Given as goal

abbrev pub invariant-loop-version : goal.invariant-loop-version
invariant-loop-version l = record {
  numbered : All (IsNumbered (length l.self.deps.now.txns)) l.pairs.items;
  has : (k : ℕ) → k < l.version → HasFollowers l.self k l.pairs.items;
}
