-- So far they are.
use Rattle.std.proofs.Common.{All, take}
use Rattle.serial_points.specs.Stepping.{IsAboveStepsTo}
use Rattle.serial_points.proofs.views.PointsView.is_above_steps.Given as goal

abbrev pub invariant-loop-write : goal.invariant-loop-write
invariant-loop-write g l =
    All (IsAboveStepsTo l.self l.place l.writes) (take l.write-index l.writes)
