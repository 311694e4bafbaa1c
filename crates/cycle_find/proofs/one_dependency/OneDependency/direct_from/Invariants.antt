-- No arc so far leads to a transaction that comes before this one.
use Rattle.std.proofs.Common.{◌<◌, ℕ, get_or}
use Rattle.cycle_find.proofs.Scanning.{NoneBefore}
use Rattle.cycle_find.proofs.one_dependency.OneDependency.direct_from.Given as goal

abbrev pub invariant-loop-index : goal.invariant-loop-index
invariant-loop-index l = (k : ℕ) → k < l.index → NoneBefore l.self l.from (get_or l.successors.to k 0)
