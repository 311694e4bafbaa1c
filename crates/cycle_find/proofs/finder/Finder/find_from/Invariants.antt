-- No needed edge by the arcs so far has a way back.
use Rattle.std.proofs.Common.{◌≡◌, ◌<◌, ℕ, get_or}
use Rattle.cycle_find.specs.Tasks.{NoneBy}
use Rattle.cycle_find.proofs.finder.Finder.find_from.Given as goal

abbrev pub invariant-loop-index : goal.invariant-loop-index
invariant-loop-index l = record {
  search : l.search ≡ l.fn.search;
  passed : (k : ℕ) → k < l.index → NoneBy l.self l.from (get_or l.successors.to k 0);
}
