-- Those so far leave by the versions so far.
use Rattle.std.proofs.Common.{◌≡◌, ◌++◌, flat_map, take}
use Rattle.dep_edges.specs.OutEdges.{written_edges}
use Rattle.dep_edges.specs.Tables.{version_at}
use Rattle.dep_edges.proofs.deps.Deps.add_out_of_installs.Given as goal

abbrev pub invariant-loop-number : goal.invariant-loop-number
invariant-loop-number l =
    l.out.items ≡ l.initial.out.items ++ flat_map (λ number. written_edges l.self.table.keys l.self.txns l.from (version_at l.self.table number)) (take l.number-index l.number-items)
