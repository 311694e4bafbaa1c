-- The vertices so far are raised.
use Rattle.std.proofs.Common.{◌≡◌, ◌<◌, ◌≤◌, ℕ, length, get_or}
use Rattle.cycle_find.specs.Fewest.{AreRaised}
use Rattle.cycle_find.proofs.leading.raise.Given as goal

abbrev pub invariant-loop-index : goal.invariant-loop-index
invariant-loop-index l = record {
  length : length l.last ≡ length l.initial.last;
  kept : AreRaised l.initial.last l.last;
  raised : (k : ℕ) → k < l.index → l.number ≤ get_or l.last (get_or l.successors.to k 0) 0;
}
