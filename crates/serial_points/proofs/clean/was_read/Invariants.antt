-- None of the writes so far was read.
use Rattle.std.proofs.Common.{take}
use Rattle.serial_points.specs.Clean.{AreUnread}
use Rattle.serial_points.proofs.clean.was_read.Given as goal

abbrev pub invariant-loop-write : goal.invariant-loop-write
invariant-loop-write l = AreUnread l.readers (take l.write-index l.writes)
