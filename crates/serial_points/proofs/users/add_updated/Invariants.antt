-- The updated versions so far are listed.
use Rattle.std.proofs.Common.{take}
use Rattle.serial_points.specs.Users.{StayListed, ListUpdated}
use Rattle.serial_points.proofs.users.add_updated.Given as goal

abbrev pub invariant-loop-read : goal.invariant-loop-read
invariant-loop-read l =
    StayListed l.initial.lists l.lists
    × ListUpdated l.lists l.place (take l.read-index l.reads) l.writes
