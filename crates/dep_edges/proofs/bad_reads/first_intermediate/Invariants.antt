-- The transactions so far have none.
use Rattle.std.proofs.Common.{◌≡◌, [], flat_map, take}
use Rattle.dep_edges.specs.Reads.{intermediate_in}
use Rattle.dep_edges.proofs.bad_reads.first_intermediate.Given as goal

abbrev pub invariant-loop-place : goal.invariant-loop-place
invariant-loop-place l = flat_map (intermediate_in l.history.txns) (take l.place l.history.txns) ≡ []
