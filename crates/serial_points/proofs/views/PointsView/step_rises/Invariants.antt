-- So far they are.
use Rattle.std.proofs.Common.{All, take}
use Rattle.serial_points.specs.Stepping.{IsAboveStep}
use Rattle.serial_points.proofs.views.PointsView.step_rises.Given as goal

abbrev pub invariant-loop-place : goal.invariant-loop-place
invariant-loop-place g l =
    All (IsAboveStep l.self l.step) (take l.place-index l.places)
