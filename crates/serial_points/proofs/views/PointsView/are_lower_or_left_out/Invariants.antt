-- So far they are.
use Rattle.std.proofs.Common.{All, take}
use Rattle.serial_points.specs.Stepping.{IsLowerUnlessLeftOut}
use Rattle.serial_points.proofs.views.PointsView.are_lower_or_left_out.Given as goal

abbrev pub invariant-loop-other : goal.invariant-loop-other
invariant-loop-other g l =
    All (IsLowerUnlessLeftOut l.self l.place l.version) (take l.other-index l.others)
