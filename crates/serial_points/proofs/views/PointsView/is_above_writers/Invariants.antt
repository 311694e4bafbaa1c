-- So far they are.
use Rattle.std.proofs.Common.{take}
use Rattle.serial_points.specs.Passing.{AboveWriters}
use Rattle.serial_points.proofs.views.PointsView.is_above_writers.Given as goal

abbrev pub invariant-loop-read : goal.invariant-loop-read
invariant-loop-read g l = AboveWriters l.self.points l.self.users.writers l.place (take l.read-index l.reads)
