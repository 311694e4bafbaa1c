-- They are bounds so far.
use Rattle.serial_points.specs.Bounds.{AreBounds}
use Rattle.serial_points.proofs.settling.tighten_falls.Given as goal

abbrev pub invariant-loop-fall : goal.invariant-loop-fall
invariant-loop-fall g l = AreBounds l.points l.readers l.initial.bounds l.bounds
