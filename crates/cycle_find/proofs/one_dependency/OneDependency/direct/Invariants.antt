-- None of the transactions so far has such an edge.
use Rattle.std.proofs.Common.{◌<◌, ℕ}
use Rattle.cycle_find.specs.OneDependency.{NoneClosingFrom}
use Rattle.cycle_find.proofs.one_dependency.OneDependency.direct.Given as goal

abbrev pub invariant-loop-from : goal.invariant-loop-from
invariant-loop-from l = (from : ℕ) → from < l.from → NoneClosingFrom l.self from
