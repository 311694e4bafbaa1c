use Rattle.std.proofs.Common.{◌≡◌, ◌-◌, length}
use Rattle.key_versions.specs.Rows.{grown}
use Rattle.key_versions.proofs.rows.Rows.grow.Given as goal

abbrev pub invariant-loop-self : goal.invariant-loop-self
invariant-loop-self l = (grown l.versions l.self.rows ≡ grown l.versions l.initial.self.rows) × (l.self.accesses ≡ l.initial.self.accesses)

abbrev pub decreases-loop-self : goal.decreases-loop-self
decreases-loop-self l = l.versions - length l.self.rows
