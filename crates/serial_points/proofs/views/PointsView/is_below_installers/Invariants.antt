-- So far they are.
use Rattle.std.proofs.Common.{All, take}
use Rattle.serial_points.specs.Stepping.{IsHigherUnlessLeftOut}
use Rattle.serial_points.proofs.views.PointsView.is_below_installers.Given as goal

abbrev pub invariant-loop-other : goal.invariant-loop-other
invariant-loop-other g l =
    All (IsHigherUnlessLeftOut l.self l.place l.version) (take l.other-index l.others)
