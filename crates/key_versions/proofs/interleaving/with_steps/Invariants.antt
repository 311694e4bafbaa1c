use Rattle.std.proofs.Common.{◌≡◌, ◌≤◌, ◌+◌, ◌++◌, ℕ, length, drop}
use Rattle.key_versions.specs.Pending.{AreInOrder}
use Rattle.key_versions.specs.Steps.{followers_from, of_place, AreBelow}
use Rattle.key_versions.proofs.interleaving.with_steps.Given as goal

abbrev pub invariant-loop-place : goal.invariant-loop-place
invariant-loop-place l =
    (l.all.items ++ followers_from l.earlier l.followers l.place (drop l.place l.accesses) ≡ followers_from l.earlier l.followers 0 l.accesses)
    × (length l.marks.items ≡ l.versions)
    × AreBelow (l.place + 1) l.marks.items
    × AreInOrder l.place l.rest
    × ((place : ℕ) → l.place ≤ place → of_place place l.followers ≡ of_place place l.rest)
