-- The reads so far are clean.
use Rattle.std.proofs.Common.{All, take}
use Rattle.serial_points.specs.Clean.{IsClean}
use Rattle.serial_points.proofs.views.PointsView.reads_clean.Given as goal

abbrev pub invariant-loop-read : goal.invariant-loop-read
invariant-loop-read g l =
    All (IsClean l.self.run.txns l.self.run.accesses l.self.users.writers l.own) (take l.read-index l.reads)
