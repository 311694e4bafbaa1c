-- What was found is above the number that each walk has more than.
use Rattle.std.proofs.Common.{◌≡◌, length, ◌-◌}
use Rattle.edge_graph.specs.Parts.{edges_in}
use Rattle.hist_types.specs.Phenomena.{Shows}
use Rattle.hist_types.specs.Witness.{dependencies_in}
use Rattle.cycle_find.specs.Fewest.{AreTrueMarks}
use Rattle.cycle_find.specs.Found.{NeedsMoreThan}
use Rattle.cycle_find.specs.Tasks.{vertices_in}
use Rattle.cycle_find.proofs.fewest.Fewest.find_far.Given as goal

abbrev pub invariant-loop-least : goal.invariant-loop-least
invariant-loop-least l = record {
  search : l.search ≡ vertices_in l.self.graph;
  marks : length l.marks ≡ vertices_in l.self.graph;
  true_marks : AreTrueMarks l.self l.marks;
  shows : Shows l.self.phenomenon (edges_in l.self.graph l.self.level) l.best;
  more : NeedsMoreThan l.passed l.self.phenomenon (edges_in l.self.graph l.self.level) → NeedsMoreThan l.least l.self.phenomenon (edges_in l.self.graph l.self.level);
}

abbrev pub decreases-loop-least : goal.decreases-loop-least
decreases-loop-least l = dependencies_in l.best - l.least
