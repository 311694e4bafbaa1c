-- The edges by the versions so far are kept.
use Rattle.std.proofs.Common.{◌<◌, ℕ}
use Rattle.dep_edges.specs.Tables.{version_at}
use Rattle.clean_order.specs.AtVersions.{KeepsAt}
use Rattle.clean_order.proofs.keeping.keeps_dependencies.Given as goal

abbrev pub invariant-loop-number : goal.invariant-loop-number
invariant-loop-number l = (number : ℕ) → number < l.number → KeepsAt l.deps l.kinds l.starts l.commits (version_at l.deps.table number)
