-- The pairs so far were looked at, and the nil versions of their keys have numbers.
use Rattle.std.proofs.Common.{◌≡◌, length}
use Rattle.key_versions.specs.Nils.{AreNilsIn}
use Rattle.key_versions.proofs.NilNumbers.{AreLooked}
use Rattle.key_versions.proofs.nils.add_nils.Given as goal

abbrev pub invariant-loop-number : goal.invariant-loop-number
invariant-loop-number g l =
    AreLooked l.fn.pairs.items l.number l.pairs.items × AreNilsIn l.pairs.items l.nils.items × (length l.nils.items ≡ length l.fn.nils.items)
    × (l.number-end ≡ length l.fn.pairs.items)
