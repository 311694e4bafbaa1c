-- The writers of the reads so far pass.
use Rattle.std.proofs.Common.{take}
use Rattle.serial_points.specs.Falls.{WritersPass}
use Rattle.serial_points.proofs.views.PointsView.writers_pass.Given as goal

abbrev pub invariant-loop-read : goal.invariant-loop-read
invariant-loop-read g l = WritersPass l.self (take l.read-index l.reads)
