-- So far they are.
use Rattle.std.proofs.Common.{take}
use Rattle.serial_points.specs.Passing.{AboveReaders}
use Rattle.serial_points.proofs.views.PointsView.is_above_readers.Given as goal

abbrev pub invariant-loop-read : goal.invariant-loop-read
invariant-loop-read g l = AboveReaders l.self.points l.self.users l.place (take l.read-index l.reads) l.writes
