-- They are floors so far.
use Rattle.serial_points.specs.Bounds.{AreFloors}
use Rattle.serial_points.proofs.bounds.lift_for.Given as goal

abbrev pub invariant-loop-read : goal.invariant-loop-read
invariant-loop-read l = AreFloors l.points l.key_writers l.initial.floors l.floors
