-- The arcs so far are among the pairs.
use Rattle.std.proofs.Common.{◌<◌, ℕ, length, get_or, All, Contains}
use Rattle.flat_groups.specs.Groups.{IsNumbered}
use Rattle.cycle_find.specs.Fewest.{IsTurnedArc}
use Rattle.cycle_find.specs.Tasks.{Includes}
use Rattle.cycle_find.proofs.leading.add_arcs.Given as goal

abbrev pub invariant-loop-index : goal.invariant-loop-index
invariant-loop-index l = record {
  numbered : All (IsNumbered (length l.arcs)) l.pairs.items;
  arcs : All (IsTurnedArc l.arcs) l.pairs.items;
  kept : Includes l.initial.pairs.items l.pairs.items;
  added : (k : ℕ) → k < l.index → Contains l.pairs.items (get_or l.successors.to k 0, l.from);
}
