-- The arcs of the vertices so far are among the pairs.
use Rattle.std.proofs.Common.{◌<◌, ℕ, length, All}
use Rattle.flat_groups.specs.Groups.{IsNumbered}
use Rattle.cycle_find.specs.Fewest.{IsTurnedArc, HasArcsFrom}
use Rattle.cycle_find.proofs.leading.leading.Given as goal

abbrev pub invariant-loop-from : goal.invariant-loop-from
invariant-loop-from l = record {
  numbered : All (IsNumbered (length l.arcs)) l.pairs.items;
  arcs : All (IsTurnedArc l.arcs) l.pairs.items;
  added : (v : ℕ) → v < l.from → HasArcsFrom l.arcs v l.pairs.items;
}
