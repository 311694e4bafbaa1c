-- The steps are those of the transactions so far.
use Rattle.std.proofs.Common.{take}
use Rattle.key_versions.specs.Stepped.{AreStepsOf}
use Rattle.key_versions.specs.LastSeen.{last_seen}
use Rattle.key_versions.proofs.kept.KeptVersions.steps.Given as goal

abbrev pub invariant-loop-place : goal.invariant-loop-place
invariant-loop-place g l = AreStepsOf l.self.versions (take l.place l.txns) (last_seen l.steps.last) l.steps.taken.items
