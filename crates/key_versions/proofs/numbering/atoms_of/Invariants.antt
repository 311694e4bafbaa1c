-- These are the first atoms.
use Rattle.std.proofs.Common.{◌≡◌, take}
use Rattle.key_versions.proofs.numbering.atoms_of.Given as goal

abbrev pub invariant-loop-number : goal.invariant-loop-number
invariant-loop-number g l = l.atoms.items ≡ take l.number l.index.items
