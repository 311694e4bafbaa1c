-- Each bound is what it was.
use Rattle.std.proofs.Common.{◌≡◌, ℕ, ◌-◌, length, slice_index}
use Rattle.serial_points.proofs.bounds.Bounds.grow.Given as goal

abbrev pub invariant-loop-self : goal.invariant-loop-self
invariant-loop-self l = (n : ℕ) → slice_index l.self-inside.bounds.items n ≡ slice_index l.initial.self-inside.bounds.items n

abbrev pub decreases-loop-self : goal.decreases-loop-self
decreases-loop-self l = l.numbers - length l.self-inside.bounds.items
