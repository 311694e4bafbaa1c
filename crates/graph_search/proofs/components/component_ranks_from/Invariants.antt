use Rattle.std.proofs.Common.{◌≡◌, length}
use Rattle.graph_search.proofs.components.component_ranks_from.Given as goal

abbrev pub invariant-loop-root : goal.invariant-loop-root
invariant-loop-root g l = length l.components.numbers.items ≡ (g.G.Arcs.graph l.graph).count
