-- The keys of the accesses so far are listed.
use Rattle.std.proofs.Common.{take}
use Rattle.serial_points.specs.Users.{StayListed, ListKeys}
use Rattle.serial_points.proofs.users.add_keys.Given as goal

abbrev pub invariant-loop-access : goal.invariant-loop-access
invariant-loop-access l =
    StayListed l.initial.lists l.lists
    × ListKeys l.lists l.place (take l.access-index l.accesses)
