-- None of the readers so far has such an edge.
use Rattle.std.proofs.Common.{◌<◌, ℕ, get_or}
use Rattle.cycle_find.specs.OneDependency.{NoneClosingFromBy}
use Rattle.cycle_find.proofs.one_dependency.OneDependency.stale_reader.Given as goal

abbrev pub invariant-loop-place : goal.invariant-loop-place
invariant-loop-place l = (k : ℕ) → k < l.place-index → NoneClosingFromBy l.self (get_or l.place-items k 0) l.version
