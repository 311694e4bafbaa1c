-- So far they are.
use Rattle.std.proofs.Common.{All, take}
use Rattle.serial_points.specs.Stepping.{BelowInstallers}
use Rattle.serial_points.proofs.views.PointsView.is_below_all_installers.Given as goal

abbrev pub invariant-loop-version : goal.invariant-loop-version
invariant-loop-version g l =
    All (BelowInstallers l.self l.place) (take l.version-index l.later)
