use Rattle.std.proofs.Common.{◌≡◌, All, length, drop}
use Rattle.key_versions.specs.Rows.{installed_rows}
use Rattle.key_versions.specs.Steps.{FollowersAreUpTo}
use Rattle.key_versions.proofs.rows.add_installs.Given as goal

abbrev pub invariant-loop-install : goal.invariant-loop-install
invariant-loop-install l =
    (length l.rows ≡ length l.initial.rows)
    × All (FollowersAreUpTo l.place) l.rows
    × (installed_rows l.place l.rows (drop l.install-index l.installs) ≡ installed_rows l.place l.initial.rows l.installs)
