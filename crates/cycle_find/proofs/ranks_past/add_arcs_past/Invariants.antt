-- The arcs so far are among the pairs.
use Rattle.std.proofs.Common.{◌<◌, ◌≤◌, ℕ, length, get_or, All, Contains}
use Rattle.cycle_find.specs.Past.{IsPairWithin}
use Rattle.cycle_find.specs.Tasks.{Includes}
use Rattle.cycle_find.proofs.ranks_past.add_arcs_past.Given as goal

abbrev pub invariant-loop-index : goal.invariant-loop-index
invariant-loop-index l = record {
  within : All (IsPairWithin (length l.arcs)) l.pairs.items;
  kept : Includes l.initial.pairs.items l.pairs.items;
  added :
      (k : ℕ)
      → k < l.index
      → l.cut ≤ get_or l.successors.to k 0
      → Contains l.pairs.items (l.from, get_or l.successors.to k 0);
}
