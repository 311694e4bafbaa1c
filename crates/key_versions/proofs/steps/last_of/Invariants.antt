use Rattle.std.proofs.Common.{◌≡◌, take}
use Rattle.key_versions.specs.Steps.{last_number}
use Rattle.key_versions.proofs.steps.last_of.Given as goal

abbrev pub invariant-loop-access : goal.invariant-loop-access
invariant-loop-access l = l.last ≡ last_number l.nil (take l.access-index l.seen)
