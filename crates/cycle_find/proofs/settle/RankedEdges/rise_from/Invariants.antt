-- A rank rises by the arcs so far.
use Rattle.std.proofs.Common.{◌<◌, ℕ, get_or}
use Rattle.cycle_find.specs.Ways.{RisesBy}
use Rattle.cycle_find.proofs.settle.RankedEdges.rise_from.Given as goal

abbrev pub invariant-loop-index : goal.invariant-loop-index
invariant-loop-index l = (k : ℕ) → k < l.index → RisesBy l.self l.from (get_or l.successors.to k 0)
