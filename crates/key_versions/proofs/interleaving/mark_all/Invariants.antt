use Rattle.std.proofs.Common.{◌≡◌, length, take}
use Rattle.key_versions.specs.Steps.{AreMarked}
use Rattle.key_versions.proofs.interleaving.mark_all.Given as goal

abbrev pub invariant-loop-version : goal.invariant-loop-version
invariant-loop-version l = (length l.marks ≡ length l.initial.marks) × AreMarked l.mark (take l.version-index l.followers) l.marks
