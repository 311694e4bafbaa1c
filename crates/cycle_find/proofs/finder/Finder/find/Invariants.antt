-- No needed edge from the transactions so far has a way back.
use Rattle.std.proofs.Common.{◌≡◌, ◌+◌, ◌<◌, ℕ, length}
use Rattle.cycle_find.specs.Tasks.{NoneFrom}
use Rattle.cycle_find.proofs.finder.Finder.find.Given as goal

abbrev pub invariant-loop-from : goal.invariant-loop-from
invariant-loop-from l = record {
  search : l.search ≡ length l.self.graph.txns + length l.self.graph.versions;
  passed : (from : ℕ) → from < l.from → NoneFrom l.self from;
}
