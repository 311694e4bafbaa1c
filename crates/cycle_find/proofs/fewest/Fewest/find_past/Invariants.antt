-- No needed edge to the transactions so far has a way back.
use Rattle.std.proofs.Common.{◌≡◌, ◌<◌, ℕ, length}
use Rattle.cycle_find.specs.Fewest.{AreTrueMarks, NoneTo}
use Rattle.cycle_find.specs.Past.{AreRanksPast}
use Rattle.cycle_find.specs.Tasks.{vertices_in}
use Rattle.cycle_find.proofs.fewest.Fewest.find_past.Given as goal

abbrev pub invariant-loop-to : goal.invariant-loop-to
invariant-loop-to l = record {
  search : l.search ≡ vertices_in l.self.graph;
  marks : length l.marks ≡ vertices_in l.self.graph;
  kept : length l.marks ≡ length l.initial.marks;
  true_marks : AreTrueMarks l.self l.marks;
  past : AreRanksPast l.self l.to l.past;
  passed : (to : ℕ) → to < l.to → NoneTo l.self l.most to;
}
