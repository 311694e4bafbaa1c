-- What was read so far is digits, and the number is theirs.
use Rattle.edn_ops.proofs.Integers.{AreDigitsUpTo}
use Rattle.edn_ops.proofs.atoms.number_of_digits.Given as goal

abbrev pub invariant-loop-byte : goal.invariant-loop-byte
invariant-loop-byte l = AreDigitsUpTo l.text l.byte-index l.number
