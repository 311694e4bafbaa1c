-- Those so far lead to the readers so far.
use Rattle.std.proofs.Common.{◌≡◌, ◌++◌, flat_map, take}
use Rattle.hist_types.specs.Edges.{wr}
use Rattle.dep_edges.specs.OutEdges.{node_edge}
use Rattle.dep_edges.specs.Tables.{txn_at, version_at}
use Rattle.dep_edges.proofs.deps.Deps.add_wr.Given as goal

abbrev pub invariant-loop-place : goal.invariant-loop-place
invariant-loop-place l =
    l.out.items ≡ l.initial.out.items ++ flat_map (λ place. node_edge l.self.txns l.from (txn_at l.self.txns place) (wr (version_at l.self.table l.number))) (take l.place-index l.place-items)
