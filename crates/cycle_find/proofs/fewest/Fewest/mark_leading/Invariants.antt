-- The vertices so far are marked.
use Rattle.std.proofs.Common.{◌≡◌, ◌<◌, ℕ, suc, length, get_or}
use Rattle.cycle_find.specs.Fewest.{AreTrueMarks}
use Rattle.cycle_find.proofs.fewest.Fewest.mark_leading.Given as goal

abbrev pub invariant-loop-from : goal.invariant-loop-from
invariant-loop-from l = record {
  length : length l.marks ≡ length l.initial.marks;
  true_marks : AreTrueMarks l.self l.marks;
  marked : (k : ℕ) → k < l.from-index → get_or l.marks (get_or l.from-items k 0) 0 ≡ suc l.to;
}
