-- The arcs of the vertices so far are among the pairs.
use Rattle.std.proofs.Common.{◌<◌, ℕ, length, All}
use Rattle.cycle_find.specs.Past.{HasArcsPast, IsPairWithin}
use Rattle.cycle_find.proofs.ranks_past.ranks_past.Given as goal

abbrev pub invariant-loop-from : goal.invariant-loop-from
invariant-loop-from l = record {
  within : All (IsPairWithin (length l.needed)) l.pairs.items;
  others : (v : ℕ) → v < l.from → HasArcsPast l.others v 0 l.pairs.items;
  needed : (v : ℕ) → v < l.from → HasArcsPast l.needed v l.cut l.pairs.items;
}
