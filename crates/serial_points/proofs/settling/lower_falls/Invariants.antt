-- The floors of the falls so far are lowered.
use Rattle.std.proofs.Common.{ℕ, ◌<◌}
use Rattle.serial_points.specs.Bounds.{AreHigher, IsFloored}
use Rattle.serial_points.specs.Falls.{fall_at}
use Rattle.serial_points.proofs.settling.lower_falls.Given as goal

abbrev pub invariant-loop-fall : goal.invariant-loop-fall
invariant-loop-fall g l =
    AreHigher l.floors l.initial.floors
    × ((k : ℕ) → k < l.fall-index → IsFloored l.run.accesses l.points l.floors (fall_at l.falls k).place)
