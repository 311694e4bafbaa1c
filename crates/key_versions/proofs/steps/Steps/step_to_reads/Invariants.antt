use Rattle.std.proofs.Common.{fold, take, []}
use Rattle.key_versions.specs.LastSeen.{last_seen}
use Rattle.key_versions.specs.Steps.{with_first, AreTaken}
use Rattle.key_versions.proofs.steps.Steps.step_to_reads.Given as goal

abbrev pub invariant-loop-i : goal.invariant-loop-i
invariant-loop-i l =
    AreTaken l.process (fold with_first [] (take l.i l.reads)) l.seen
    l.initial.self.taken.items (last_seen l.initial.self.last) l.self.taken.items (last_seen l.self.last)
