-- So far they are.
use Rattle.std.proofs.Common.{take}
use Rattle.serial_points.specs.Passing.{AboveNilReaders}
use Rattle.serial_points.proofs.views.PointsView.is_above_nil_readers.Given as goal

abbrev pub invariant-loop-write : goal.invariant-loop-write
invariant-loop-write g l = AboveNilReaders l.self.points l.self.users l.place (take l.write-index l.writes)
