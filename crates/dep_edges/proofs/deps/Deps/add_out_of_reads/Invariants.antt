-- What is left to add comes from the versions that are left.
use Rattle.std.proofs.Common.{◌≡◌, ◌++◌, List, All, length, flat_map, map}
use Rattle.hist_types.specs.Transactions.{Version}
use Rattle.key_versions.specs.Histories.{read_by}
use Rattle.dep_edges.specs.OutEdges.{Begins, read_edges, each_once}
use Rattle.dep_edges.specs.Tables.{IsNumber, txn_at, version_at}
use Rattle.dep_edges.proofs.deps.Deps.add_out_of_reads.Given as goal

abbrev pub invariant-loop-number : goal.invariant-loop-number
invariant-loop-number l =
    let h = l.self in
    let edges = λ (vs : List Version). flat_map (read_edges h.table.keys h.txns l.from) (each_once vs) in
    record {
      left : l.out.items ++ edges (map (version_at h.table) l.rest) ≡ l.initial.out.items ++ edges (read_by (txn_at h.txns l.place));
      begins : Begins l.initial.out.items l.out.items;
      within : All (IsNumber h.table) l.rest;
    }

abbrev pub decreases-loop-number : goal.decreases-loop-number
decreases-loop-number l = length l.rest
