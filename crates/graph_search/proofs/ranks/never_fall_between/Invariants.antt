-- It falls along no arc of the vertices so far.
use Rattle.std.proofs.Common.{ℕ, ◌<◌, ◌≤◌, get_or}
use Rattle.graph_search.specs.Graphs.{HasArc}
use Rattle.graph_search.proofs.ranks.never_fall_between.Given as goal

abbrev pub invariant-loop-vertex : goal.invariant-loop-vertex
invariant-loop-vertex g l = (v w : ℕ) → v < l.vertex → HasArc (g.G.Arcs.graph l.graph) v w → get_or l.before v 0 ≤ get_or l.after w 0
