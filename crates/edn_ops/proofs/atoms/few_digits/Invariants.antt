-- What was read so far is digits, and the number is theirs.
use Rattle.std.proofs.Common.{◌-◌, ◌≤◌}
use Rattle.edn_ops.specs.declared.atoms.TheConstants.{FEW_DIGITS}
use Rattle.edn_ops.proofs.Integers.{AreDigitsUpTo}
use Rattle.edn_ops.proofs.atoms.few_digits.Given as goal

abbrev pub invariant-loop-len : goal.invariant-loop-len
invariant-loop-len l = AreDigitsUpTo l.text l.len l.number × (l.len ≤ FEW_DIGITS)

abbrev pub decreases-loop-len : goal.decreases-loop-len
decreases-loop-len l = FEW_DIGITS - l.len
