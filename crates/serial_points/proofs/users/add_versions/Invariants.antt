-- The accesses so far are listed.
use Rattle.std.proofs.Common.{take}
use Rattle.serial_points.specs.Users.{StayListed, ListVersions, ListOnlyVersions}
use Rattle.serial_points.proofs.users.add_versions.Given as goal

abbrev pub invariant-loop-access : goal.invariant-loop-access
invariant-loop-access l =
    StayListed l.initial.lists l.lists
    × ListVersions l.lists l.place (take l.access-index l.accesses)
    × ListOnlyVersions l.initial.lists l.lists l.place l.accesses
