use Rattle.std.proofs.Common.{◌≡◌, ◌++◌, take}
use Rattle.key_versions.specs.Rows.{numbers_of}
use Rattle.key_versions.proofs.accesses.append.Given as goal

abbrev pub invariant-loop-access : goal.invariant-loop-access
invariant-loop-access l = l.numbers.items ≡ l.initial.numbers.items ++ numbers_of (take l.access-index l.accesses)
