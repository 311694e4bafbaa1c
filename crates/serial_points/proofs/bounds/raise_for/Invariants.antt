-- The bounds of the reads so far are raised.
use Rattle.std.proofs.Common.{take}
use Rattle.serial_points.specs.Bounds.{AreHigher, BoundsReads}
use Rattle.serial_points.proofs.bounds.raise_for.Given as goal

abbrev pub invariant-loop-read : goal.invariant-loop-read
invariant-loop-read l =
    AreHigher l.initial.bounds l.bounds
    × BoundsReads l.bounds l.point (take l.read-index l.reads) l.writes
