-- What the version's arcs so far lead to is above the transaction.
use Rattle.std.proofs.Common.{◌≡◌, ◌<◌, ℕ, get_or}
use Rattle.cycle_find.specs.Ways.{IsAbove}
use Rattle.cycle_find.proofs.settle.RankedEdges.rise_by_version.Given as goal

abbrev pub invariant-loop-index : goal.invariant-loop-index
invariant-loop-index l =
    (k : ℕ) → k < l.index → (l.from ≡ get_or l.successors.to k 0 → ⊥)
    → IsAbove l.self l.from (get_or l.successors.to k 0)
