-- What was added so far are the other readers of the versions so far.
use Rattle.std.proofs.Common.{◌≡◌, ◌++◌, ◌==◌, not, take, map, filter, flat_map}
use Rattle.key_versions.specs.Histories.{readers_of}
use Rattle.dep_edges.specs.Tables.{version_at}
use Rattle.edge_graph.proofs.layout.Layout.push_readers.Given as goal

abbrev pub invariant-loop-version : goal.invariant-loop-version
invariant-loop-version l =
    l.out.items
    ≡ l.initial.out.items
    ++ flat_map (λ v. filter (λ u. not (u == l.place)) (readers_of l.self.history.now.txns v)) (map (version_at l.self.history.now.table) (take l.version-index l.version-items))
