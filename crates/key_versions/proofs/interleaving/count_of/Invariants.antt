use Rattle.std.proofs.Common.{◌≡◌, ◌+◌, drop}
use Rattle.key_versions.specs.Steps.{run_of}
use Rattle.key_versions.proofs.interleaving.count_of.Given as goal

abbrev pub invariant-loop-i : goal.invariant-loop-i
invariant-loop-i l = run_of l.place l.followers ≡ l.i + run_of l.place (drop l.i l.followers)
