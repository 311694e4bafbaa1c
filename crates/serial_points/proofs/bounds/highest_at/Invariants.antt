-- None so far is above it.
use Rattle.std.proofs.Common.{take}
use Rattle.serial_points.specs.Bounds.{AreAtMost}
use Rattle.serial_points.proofs.bounds.highest_at.Given as goal

abbrev pub invariant-loop-place : goal.invariant-loop-place
invariant-loop-place l = AreAtMost l.points (take l.place-index l.places) l.highest
