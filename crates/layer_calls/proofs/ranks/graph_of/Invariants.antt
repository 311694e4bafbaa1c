-- The graph has eight vertices.
use Rattle.std.proofs.Common.{◌≡◌, length}
use Rattle.layer_calls.proofs.ranks.graph_of.Given as goal

abbrev pub invariant-loop-place : goal.invariant-loop-place
invariant-loop-place l = length l.graph.lists.items ≡ 8
