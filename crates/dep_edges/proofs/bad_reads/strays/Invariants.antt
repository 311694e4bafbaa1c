-- Those so far are of the transactions so far.
use Rattle.std.proofs.Common.{◌≡◌, flat_map, take, map}
use Rattle.dep_edges.specs.Reads.{stray_in}
use Rattle.dep_edges.specs.Tables.{version_at}
use Rattle.dep_edges.proofs.bad_reads.strays.Given as goal

abbrev pub invariant-loop-place : goal.invariant-loop-place
invariant-loop-place l = map (version_at l.history.table) l.strays.items ≡ flat_map (stray_in l.history.txns) (take l.place l.history.txns)
