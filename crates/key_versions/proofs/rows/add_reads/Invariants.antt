use Rattle.std.proofs.Common.{◌≡◌, [], All, length, drop, take}
use Rattle.key_versions.specs.Rows.{read_rows}
use Rattle.key_versions.specs.Steps.{FollowersAreUpTo}
use Rattle.key_versions.proofs.rows.add_reads.Given as goal

abbrev pub invariant-loop-i : goal.invariant-loop-i
invariant-loop-i l =
    (length l.rows ≡ length l.initial.rows)
    × All (FollowersAreUpTo l.place) l.rows
    × (read_rows l.place l.installs l.rows (take l.i l.reads) (drop l.i l.reads) ≡ read_rows l.place l.installs l.initial.rows [] l.reads)
