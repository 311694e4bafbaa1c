-- So far they are.
use Rattle.std.proofs.Common.{ℕ, ◌<◌}
use Rattle.serial_points.specs.Falls.{fall_at}
use Rattle.serial_points.specs.Stepping.{AboveStepsAt}
use Rattle.serial_points.proofs.views.PointsView.falls_are_above_steps.Given as goal

abbrev pub invariant-loop-fall : goal.invariant-loop-fall
invariant-loop-fall g l =
    (k : ℕ) → k < l.fall-index → AboveStepsAt l.self (fall_at l.falls k).place
