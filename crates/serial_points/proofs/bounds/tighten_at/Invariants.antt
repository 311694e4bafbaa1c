-- They are bounds so far.
use Rattle.serial_points.specs.Bounds.{AreBounds}
use Rattle.serial_points.proofs.bounds.tighten_at.Given as goal

abbrev pub invariant-loop-version : goal.invariant-loop-version
invariant-loop-version l = AreBounds l.points l.readers l.initial.bounds l.bounds
