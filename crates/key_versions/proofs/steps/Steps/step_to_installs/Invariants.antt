use Rattle.std.proofs.Common.{ℕ, List, Option, fold, drop, []}
use Rattle.key_versions.specs.LastSeen.{last_seen}
use Rattle.key_versions.specs.Steps.{with_first, AreTaken}
use Rattle.key_versions.specs.declared.pending.Access.{Access}
use Rattle.key_versions.proofs.Taken.{AreLeft}
use Rattle.key_versions.proofs.steps.Steps.step_to_installs.Given as goal

abbrev pub invariant-loop-i : goal.invariant-loop-i
invariant-loop-i l =
    (before : List (ℕ × ℕ)) (last : ℕ → ℕ → Option ℕ)
    → AreTaken l.process (fold with_first [] l.reads) l.seen before last l.initial.self.taken.items (last_seen l.initial.self.last)
    → (met : List Access) × AreLeft l.process l.reads l.writes l.seen (drop l.i l.writes) met before last l.self.taken.items (last_seen l.self.last)
