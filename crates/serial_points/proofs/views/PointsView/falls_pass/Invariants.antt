-- The falls so far pass.
use Rattle.std.proofs.Common.{ℕ, ◌<◌}
use Rattle.serial_points.specs.Falls.{PassesAt, fall_at}
use Rattle.serial_points.proofs.views.PointsView.falls_pass.Given as goal

abbrev pub invariant-loop-fall : goal.invariant-loop-fall
invariant-loop-fall g l =
    (k : ℕ) → k < l.fall-index → PassesAt l.self (fall_at l.falls k).place
