-- So far they are.
use Rattle.std.proofs.Common.{All, take}
use Rattle.serial_points.specs.Stepping.{IsBelowUnlessOk}
use Rattle.serial_points.proofs.views.PointsView.are_below_unless_ok.Given as goal

abbrev pub invariant-loop-place : goal.invariant-loop-place
invariant-loop-place g l =
    All (IsBelowUnlessOk l.self) (take l.place-index l.places)
