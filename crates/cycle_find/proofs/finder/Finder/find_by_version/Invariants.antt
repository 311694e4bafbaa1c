-- What the version's arcs so far lead to has no way back.
use Rattle.std.proofs.Common.{◌≡◌, ◌<◌, ℕ, get_or}
use Rattle.cycle_find.specs.Tasks.{HasReturnBetween}
use Rattle.cycle_find.proofs.finder.Finder.find_by_version.Given as goal

abbrev pub invariant-loop-index : goal.invariant-loop-index
invariant-loop-index l = record {
  search : l.search ≡ l.fn.search;
  passed :
      (k : ℕ) → k < l.index → (l.from ≡ get_or l.successors.to k 0 → ⊥)
      → ¬ HasReturnBetween l.self l.from (get_or l.successors.to k 0);
}
