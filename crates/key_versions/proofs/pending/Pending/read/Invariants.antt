-- The installs so far follow, and those that are left are still to be added.
use Rattle.std.proofs.Common.{◌≡◌, All, length, drop}
use Rattle.key_versions.specs.Rows.{change, with_reader}
use Rattle.key_versions.specs.Steps.{FollowersAreUpTo}
use Rattle.key_versions.proofs.Gathered.{with_followers, following}
use Rattle.key_versions.proofs.pending.Pending.read.Given as goal

abbrev pub invariant-loop-install : goal.invariant-loop-install
invariant-loop-install l =
    (length l.self ≡ length l.fn.self)
    × All (FollowersAreUpTo l.place) l.self
    × (change (with_followers (following l.place l.read (drop l.install-index l.installs))) l.read.version l.self
    ≡ change (with_reader l.place l.read l.installs) l.read.version l.fn.self)
