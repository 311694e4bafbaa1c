-- So far they are.
use Rattle.std.proofs.Common.{take}
use Rattle.serial_points.specs.Passing.{BelowKeyWriters}
use Rattle.serial_points.proofs.views.PointsView.is_below_key_writers.Given as goal

abbrev pub invariant-loop-read : goal.invariant-loop-read
invariant-loop-read g l = BelowKeyWriters l.self.points l.self.users l.place (take l.read-index l.reads)
