-- There is none with the followers so far.
use Rattle.std.proofs.Common.{◌≡◌, ◌<◌, ℕ, get_or}
use Rattle.dep_edges.specs.Tables.{IsNumber}
use Rattle.edge_graph.specs.declared.types.Dependencies.TheVariants.{Rw}
use Rattle.cycle_find.specs.TwoDependencies.{IsPair, IsReader}
use Rattle.cycle_find.proofs.two_dependencies.TwoDependencies.close_by.Given as goal

abbrev pub invariant-loop-follower : goal.invariant-loop-follower
invariant-loop-follower l =
    (k : ℕ) → k < l.follower-index → IsNumber l.self.deps.now.table l.other → ¬ (l.from ≡ (get_or l.followers k (record { txn = 0; version = 0 })).txn)
    → IsReader l.self.deps.now l.other (get_or l.followers k (record { txn = 0; version = 0 })).txn
    → ¬ IsPair l.self Rw l.from (get_or l.followers k (record { txn = 0; version = 0 })).txn
