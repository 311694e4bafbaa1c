-- What was added so far are the nodes behind the versions so far.
use Rattle.std.proofs.Common.{◌≡◌, ◌++◌, take, map, flat_map}
use Rattle.dep_edges.specs.Tables.{version_at}
use Rattle.edge_graph.specs.LaidOut.{nodes_behind}
use Rattle.edge_graph.proofs.layout.Layout.push_writers.Given as goal

abbrev pub invariant-loop-version : goal.invariant-loop-version
invariant-loop-version l =
    l.out.items
    ≡ l.initial.out.items
    ++ flat_map (nodes_behind l.self.history.now.table.keys l.self.history.now.txns) (map (version_at l.self.history.now.table) (take l.version-index l.version-items))
