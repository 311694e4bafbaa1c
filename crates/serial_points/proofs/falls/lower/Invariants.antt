-- The points so far have fallen.
use Rattle.std.proofs.Common.{◌≡◌, length}
use Rattle.serial_points.specs.Falls.{HaveFallen}
use Rattle.serial_points.proofs.falls.lower.Given as goal

abbrev pub invariant-loop-fall : goal.invariant-loop-fall
invariant-loop-fall l =
    (length l.points ≡ length l.initial.points)
    × HaveFallen l.initial.points l.points l.falls l.fall-index
