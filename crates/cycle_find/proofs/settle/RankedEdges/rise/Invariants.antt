-- A rank rises along the edges of the transactions so far.
use Rattle.std.proofs.Common.{◌<◌, ℕ}
use Rattle.cycle_find.specs.Ways.{RisesFrom}
use Rattle.cycle_find.proofs.settle.RankedEdges.rise.Given as goal

abbrev pub invariant-loop-from : goal.invariant-loop-from
invariant-loop-from l = (from : ℕ) → from < l.from → RisesFrom l.self from
