use Rattle.std.proofs.Common.{◌-◌, ◌≤◌, Ok, length}
use Rattle.edn_ops.specs.Flat.{ReadsFlatMops}
use Rattle.edn_ops.proofs.flat_mops.other_members.Given as goal

abbrev pub invariant-loop-closer : goal.invariant-loop-closer
invariant-loop-closer l = (l.offset ≤ l.at) × (l.at ≤ length l.text) × ReadsFlatMops l.text l.offset l.fn.mops.items (Ok l.at) l.mops.items

abbrev pub decreases-loop-closer : goal.decreases-loop-closer
decreases-loop-closer l = length l.text - l.at
