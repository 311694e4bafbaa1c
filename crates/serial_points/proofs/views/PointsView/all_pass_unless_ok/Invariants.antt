-- The places so far pass.
use Rattle.std.proofs.Common.{All, take}
use Rattle.serial_points.specs.Falls.{PassesUnlessOk}
use Rattle.serial_points.proofs.views.PointsView.all_pass_unless_ok.Given as goal

abbrev pub invariant-loop-place : goal.invariant-loop-place
invariant-loop-place g l = All (PassesUnlessOk l.self) (take l.place-index l.places)
