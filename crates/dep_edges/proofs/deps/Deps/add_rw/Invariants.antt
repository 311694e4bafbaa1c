-- Those so far lead to the followers so far.
use Rattle.std.proofs.Common.{◌≡◌, ◌++◌, flat_map, take}
use Rattle.hist_types.specs.Edges.{rw}
use Rattle.key_versions.specs.declared.types.Follower.{Follower}
use Rattle.dep_edges.specs.OutEdges.{node_edge}
use Rattle.dep_edges.specs.Tables.{txn_at, version_at}
use Rattle.dep_edges.proofs.deps.Deps.add_rw.Given as goal

abbrev pub invariant-loop-follower : goal.invariant-loop-follower
invariant-loop-follower l =
    let table = l.self.table in
    l.out.items
    ≡ l.initial.out.items
    ++ flat_map (λ (f : Follower). node_edge l.self.txns l.from (txn_at l.self.txns f.txn) (rw (version_at table l.number) (version_at table f.version))) (take l.follower-index l.follower-items)
