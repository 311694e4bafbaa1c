-- So far they are.
use Rattle.std.proofs.Common.{take}
use Rattle.serial_points.specs.Passing.{AllHigher}
use Rattle.serial_points.proofs.views.PointsView.are_all_higher.Given as goal

abbrev pub invariant-loop-other : goal.invariant-loop-other
invariant-loop-other g l = AllHigher l.self.points (take l.other-index l.places) l.place
