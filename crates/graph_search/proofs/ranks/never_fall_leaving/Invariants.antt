-- Ranks fall along no arc of the vertices so far.
use Rattle.std.proofs.Common.{ℕ, ◌<◌, get_or}
use Rattle.graph_search.specs.Graphs.{NoneBelow}
use Rattle.graph_search.proofs.ranks.never_fall_leaving.Given as goal

abbrev pub invariant-loop-vertex : goal.invariant-loop-vertex
invariant-loop-vertex g l = (k : ℕ) → k < l.vertex-index → NoneBelow (g.G.Arcs.graph l.graph) l.ranks (get_or l.vertices k 0) (get_or l.ranks (get_or l.vertices k 0) 0)
