use Rattle.std.proofs.Common.{◌≡◌, ◌-◌, [], length}
use Rattle.edn_ops.proofs.FlatPlaces.{PassedTo}
use Rattle.edn_ops.proofs.reader.Place.flat_op.Given as goal

abbrev pub invariant-loop-opener : goal.invariant-loop-opener
invariant-loop-opener l = PassedTo l.fn.self l.text l.offset l.skipped × (l.self ≡ l.fn.self) × (l.mops.items ≡ [])

abbrev pub decreases-loop-opener : goal.decreases-loop-opener
decreases-loop-opener l = length l.text - l.offset
