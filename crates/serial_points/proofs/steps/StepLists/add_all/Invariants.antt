-- The steps so far are added.
use Rattle.std.proofs.Common.{take}
use Rattle.serial_points.specs.Steps.{AddSteps}
use Rattle.serial_points.proofs.steps.StepLists.add_all.Given as goal

abbrev pub invariant-loop-step : goal.invariant-loop-step
invariant-loop-step l = AddSteps l.initial.self l.self (take l.step-index l.steps)
