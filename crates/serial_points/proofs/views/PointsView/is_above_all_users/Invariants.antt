-- So far they are.
use Rattle.std.proofs.Common.{All, take}
use Rattle.serial_points.specs.Stepping.{AboveUsers}
use Rattle.serial_points.proofs.views.PointsView.is_above_all_users.Given as goal

abbrev pub invariant-loop-version : goal.invariant-loop-version
invariant-loop-version g l =
    All (AboveUsers l.self l.place) (take l.version-index l.earlier)
