-- The search is one of graphs of eight vertices.
use Rattle.std.proofs.Common.{◌≡◌}
use Rattle.layer_calls.proofs.ranks.print_walks.Given as goal

abbrev pub invariant-loop-place : goal.invariant-loop-place
invariant-loop-place g l = l.search ≡ 8
