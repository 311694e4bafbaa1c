-- So far they are.
use Rattle.std.proofs.Common.{take}
use Rattle.serial_points.specs.Passing.{BelowReaders}
use Rattle.serial_points.proofs.views.PointsView.is_below_readers.Given as goal

abbrev pub invariant-loop-write : goal.invariant-loop-write
invariant-loop-write g l = BelowReaders l.self.points l.self.users.readers l.place (take l.write-index l.writes)
