-- What was added so far are the nodes among the followers so far.
use Rattle.std.proofs.Common.{◌≡◌, ◌++◌, take, map, filter}
use Rattle.hist_types.specs.Transactions.{is_node}
use Rattle.key_versions.specs.declared.types.Follower.{Follower}
use Rattle.dep_edges.specs.Tables.{txn_at}
use Rattle.edge_graph.proofs.layout.Layout.push_nodes_behind.Given as goal

abbrev pub invariant-loop-follower : goal.invariant-loop-follower
invariant-loop-follower l =
    l.out.items
    ≡ l.initial.out.items
    ++ filter (λ place. is_node l.self.history.now.txns (txn_at l.self.history.now.txns place)) (map (λ (f : Follower). f.txn) (take l.follower-index l.follower-items))
