-- None so far is below it.
use Rattle.std.proofs.Common.{take}
use Rattle.serial_points.specs.Bounds.{AreAtLeast}
use Rattle.serial_points.proofs.bounds.least_at.Given as goal

abbrev pub invariant-loop-place : goal.invariant-loop-place
invariant-loop-place l = AreAtLeast l.points (take l.place-index l.places) l.least
