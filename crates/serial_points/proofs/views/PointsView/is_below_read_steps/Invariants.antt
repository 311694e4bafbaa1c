-- So far they are.
use Rattle.std.proofs.Common.{take}
use Rattle.serial_points.specs.Stepping.{BelowReadSteps}
use Rattle.serial_points.proofs.views.PointsView.is_below_read_steps.Given as goal

abbrev pub invariant-loop-read : goal.invariant-loop-read
invariant-loop-read g l = BelowReadSteps l.self l.place (take l.read-index l.reads)
