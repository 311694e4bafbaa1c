-- Each walk needs more dependency edges than have been asked for.
use Rattle.std.proofs.Common.{◌≡◌, ◌<◌, length}
use Rattle.edge_graph.specs.Parts.{edges_in}
use Rattle.cycle_find.specs.Fewest.{AreLabels, AreTrueMarks}
use Rattle.cycle_find.specs.Found.{NeedsMoreThan}
use Rattle.cycle_find.specs.Tasks.{vertices_in}
use Rattle.cycle_find.proofs.fewest.Fewest.find_by.Given as goal

abbrev pub invariant-loop-most : goal.invariant-loop-most
invariant-loop-most l = record {
  search : l.search ≡ vertices_in l.self.graph;
  marks : length l.marks ≡ vertices_in l.self.graph;
  true_marks : AreTrueMarks l.self l.marks;
  labelled : AreLabels l.self l.labels;
  most : l.labels.most ≡ l.most;
  passed : l.floor < l.most → NeedsMoreThan l.most l.self.phenomenon (edges_in l.self.graph l.self.level);
}
