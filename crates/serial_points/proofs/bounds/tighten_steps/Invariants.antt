-- They are bounds so far.
use Rattle.serial_points.specs.Bounds.{AreBounds}
use Rattle.serial_points.proofs.bounds.tighten_steps.Given as goal

abbrev pub invariant-loop-step : goal.invariant-loop-step
invariant-loop-step l = AreBounds l.points l.readers l.initial.bounds l.bounds
