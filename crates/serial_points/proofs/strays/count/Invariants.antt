-- So many of the reads so far.
use Rattle.std.proofs.Common.{◌≡◌, ◌≤◌, take}
use Rattle.serial_points.specs.Strays.{unwritten}
use Rattle.serial_points.proofs.strays.count.Given as goal

abbrev pub invariant-loop-read : goal.invariant-loop-read
invariant-loop-read l =
    (l.strays ≡ unwritten l.writers (take l.read-index l.reads)) × (l.strays ≤ l.read-index)
