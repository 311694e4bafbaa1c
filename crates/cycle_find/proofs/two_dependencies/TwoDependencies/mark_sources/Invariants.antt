-- The readers so far are marked.
use Rattle.std.proofs.Common.{◌≡◌, ◌<◌, ℕ, length, get_or}
use Rattle.cycle_find.specs.TwoDependencies.{IsIn}
use Rattle.cycle_find.proofs.two_dependencies.TwoDependencies.mark_sources.Given as goal

abbrev pub invariant-loop-place : goal.invariant-loop-place
invariant-loop-place l = record {
  length : length l.sources.marks.items ≡ length l.self.deps.now.txns;
  marked : (k : ℕ) → k < l.place-index → IsIn l.sources (get_or l.place-items k 0);
}
