-- There is none with the ends so far.
use Rattle.std.proofs.Common.{◌≡◌, ◌<◌, ℕ, length, get_or}
use Rattle.cycle_find.specs.TwoDependencies.{IsIn, IsSource, NoneBackWay}
use Rattle.cycle_find.proofs.two_dependencies.TwoDependencies.by_version.Given as goal

abbrev pub invariant-loop-index : goal.invariant-loop-index
invariant-loop-index l = record {
  length : length l.sources.marks.items ≡ length l.self.deps.now.txns;
  marked : (place : ℕ) → IsSource l.self l.version place → IsIn l.sources place;
  none : (k : ℕ) → k < l.index → NoneBackWay l.self l.version (get_or l.ends k 0);
}
