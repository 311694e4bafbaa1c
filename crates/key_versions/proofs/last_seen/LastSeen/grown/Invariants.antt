use Rattle.std.proofs.Common.{◌≡◌, ℕ}
use Rattle.key_versions.specs.LastSeen.{index_of, last_seen}
use Rattle.key_versions.proofs.LastSeen.{version_among}
use Rattle.key_versions.proofs.last_seen.LastSeen.grown.Given as goal

abbrev pub invariant-loop-seen : goal.invariant-loop-seen
invariant-loop-seen l =
    (process nil : ℕ) → last_seen l.grown process nil ≡ version_among l.self.seen l.seen-index (index_of l.self process nil)
