-- None of the reads so far is such a one.
use Rattle.std.proofs.Common.{◌≡◌, [], flat_map, take, map}
use Rattle.hist_types.specs.Phenomena.{bad_read, aborted_writers}
use Rattle.dep_edges.specs.Tables.{txn_at, version_at}
use Rattle.dep_edges.proofs.bad_reads.aborted_read.Given as goal

abbrev pub invariant-loop-number : goal.invariant-loop-number
invariant-loop-number l =
    let t = txn_at l.history.txns l.place in
    flat_map (λ number. map (bad_read t (version_at l.history.table number)) (aborted_writers l.history.txns (version_at l.history.table number))) (take l.number-index l.number-items) ≡ []
