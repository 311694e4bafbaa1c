-- So far they are.
use Rattle.std.proofs.Common.{take}
use Rattle.serial_points.specs.Passing.{AllLower}
use Rattle.serial_points.proofs.views.PointsView.are_all_lower.Given as goal

abbrev pub invariant-loop-other : goal.invariant-loop-other
invariant-loop-other g l = AllLower l.self.points (take l.other-index l.places) l.place
