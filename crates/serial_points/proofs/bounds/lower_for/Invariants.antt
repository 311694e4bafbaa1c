-- The floors of the writes so far are lowered.
use Rattle.std.proofs.Common.{take}
use Rattle.serial_points.specs.Bounds.{AreHigher, FloorsWrites}
use Rattle.serial_points.proofs.bounds.lower_for.Given as goal

abbrev pub invariant-loop-write : goal.invariant-loop-write
invariant-loop-write l =
    AreHigher l.floors l.initial.floors
    × FloorsWrites l.floors l.point (take l.write-index l.writes)
