-- The last of the followers so far that comes before the reader, or none does.
use Rattle.std.proofs.Common.{◌<◌, ℕ, get_or}
use Rattle.cycle_find.specs.OneDependency.{AreClosingOr}
use Rattle.cycle_find.proofs.Scanning.{NoneBefore}
use Rattle.cycle_find.proofs.one_dependency.OneDependency.follower_before.Given as goal

abbrev pub invariant-loop-index : goal.invariant-loop-index
invariant-loop-index l =
    AreClosingOr l.self ((k : ℕ) → k < l.index → NoneBefore l.self l.from (get_or l.followers.to k 0)) l.last
