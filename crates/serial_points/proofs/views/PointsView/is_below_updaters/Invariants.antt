-- So far they are.
use Rattle.std.proofs.Common.{take}
use Rattle.serial_points.specs.Passing.{BelowUpdaters}
use Rattle.serial_points.proofs.views.PointsView.is_below_updaters.Given as goal

abbrev pub invariant-loop-read : goal.invariant-loop-read
invariant-loop-read g l = BelowUpdaters l.self.points l.self.users.updaters l.place (take l.read-index l.reads)
