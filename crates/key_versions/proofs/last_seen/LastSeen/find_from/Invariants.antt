use Rattle.std.proofs.Common.{◌≡◌, ◌≤◌, length}
use Rattle.key_versions.specs.LastSeen.{index_from}
use Rattle.key_versions.proofs.last_seen.LastSeen.find_from.Given as goal

abbrev pub invariant-loop-place : goal.invariant-loop-place
invariant-loop-place l =
    (l.place ≤ length l.self.seen)
    × (index_from l.place l.place l.process l.nil l.self.seen ≡ index_from l.first l.first l.process l.nil l.self.seen)

abbrev pub decreases-loop-place : goal.decreases-loop-place
decreases-loop-place l = l.place
