-- They are bounds so far.
use Rattle.serial_points.specs.Bounds.{AreBounds}
use Rattle.serial_points.proofs.settling.tighten_before.Given as goal

abbrev pub invariant-loop-write : goal.invariant-loop-write
invariant-loop-write g l = AreBounds l.points l.readers l.initial.bounds l.bounds
