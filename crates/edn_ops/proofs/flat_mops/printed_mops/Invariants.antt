use Rattle.std.proofs.Common.{◌-◌, ◌≤◌, Ok, length}
use Rattle.edn_lex.specs.Ahead.{IsGap}
use Rattle.edn_ops.specs.Flat.{ReadsFlatMops}
use Rattle.edn_ops.proofs.flat_mops.printed_mops.Given as goal

abbrev pub invariant-loop-next : goal.invariant-loop-next
invariant-loop-next l = (l.offset ≤ l.end) × IsGap l.text l.end l.start × ReadsFlatMops l.text l.offset l.fn.mops.items (Ok l.end) l.mops.items

abbrev pub decreases-loop-next : goal.decreases-loop-next
decreases-loop-next l = length l.text - l.start
