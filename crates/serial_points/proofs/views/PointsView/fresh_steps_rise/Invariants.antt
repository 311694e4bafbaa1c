-- So far they do.
use Rattle.std.proofs.Common.{All, take}
use Rattle.serial_points.specs.Stepping.{StepRises}
use Rattle.serial_points.proofs.views.PointsView.fresh_steps_rise.Given as goal

abbrev pub invariant-loop-step : goal.invariant-loop-step
invariant-loop-step g l = All (StepRises l.self) (take l.step-index l.steps)
