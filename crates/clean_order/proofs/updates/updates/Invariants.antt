-- It is so of the writes so far.
use Rattle.std.proofs.Common.{◌≡◌, take}
use Rattle.clean_order.specs.Accesses.{updates}
use Rattle.clean_order.proofs.updates.updates.Given as goal

abbrev pub invariant-loop-write : goal.invariant-loop-write
invariant-loop-write l = l.found ≡ updates (take l.write-index l.writes) l.read
