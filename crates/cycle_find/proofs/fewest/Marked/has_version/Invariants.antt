-- None of the vertices so far is such a version.
use Rattle.std.proofs.Common.{◌≡◌, false, take}
use Rattle.std.specs.List.{list_any}
use Rattle.cycle_find.specs.Fewest.{is_marked_version}
use Rattle.cycle_find.proofs.fewest.Marked.has_version.Given as goal

abbrev pub invariant-loop-index : goal.invariant-loop-index
invariant-loop-index l = list_any (is_marked_version l.self.places l.self.marks.now l.self.mark) (take l.index l.vertices.to) ≡ false
