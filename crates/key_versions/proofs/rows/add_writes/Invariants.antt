use Rattle.std.proofs.Common.{◌≡◌, ◌++◌, length, drop}
use Rattle.key_versions.specs.Rows.{written_rows, lasts}
use Rattle.key_versions.proofs.rows.add_writes.Given as goal

abbrev pub invariant-loop-i : goal.invariant-loop-i
invariant-loop-i l =
    (length l.rows ≡ length l.initial.rows)
    × (written_rows l.place l.rows (drop l.i l.writes) ≡ written_rows l.place l.initial.rows l.writes)
    × (l.installs.items ++ lasts (drop l.i l.writes) ≡ lasts l.writes)
