-- What was added so far are the places so far, but for the one.
use Rattle.std.proofs.Common.{◌≡◌, ◌++◌, ◌==◌, not, take, filter}
use Rattle.edge_graph.proofs.layout.push_others.Given as goal

abbrev pub invariant-loop-other : goal.invariant-loop-other
invariant-loop-other l =
    l.out.items ≡ l.initial.out.items ++ filter (λ u. not (u == l.place)) (take l.other-index l.places)
