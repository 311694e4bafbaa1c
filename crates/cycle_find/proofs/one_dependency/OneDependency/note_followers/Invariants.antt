-- The completions of the followers so far are known.
use Rattle.std.proofs.Common.{◌<◌, ℕ, get_or}
use Rattle.dep_edges.specs.Tables.{txn_at}
use Rattle.cycle_find.specs.Completions.{IsKnown}
use Rattle.cycle_find.proofs.one_dependency.OneDependency.note_followers.Given as goal

abbrev pub invariant-loop-index : goal.invariant-loop-index
invariant-loop-index l =
    (k : ℕ) → k < l.index → IsKnown l.self.level l.version (txn_at l.self.graph.txns (get_or l.followers.to k 0)) l.earliest
