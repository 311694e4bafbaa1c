-- None of the successors so far has a number below.
use Rattle.std.proofs.Common.{ℕ, ◌<◌, ◌≤◌, get_or}
use Rattle.graph_search.proofs.ranks.none_below.Given as goal

abbrev pub invariant-loop-index : goal.invariant-loop-index
invariant-loop-index g l = (k : ℕ) → k < l.index → l.least ≤ get_or l.numbers (get_or ((g.G.Arcs.graph l.graph).successors l.vertex) k 0) 0
