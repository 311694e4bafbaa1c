-- None of the edges so far leads there.
use Rattle.std.proofs.Common.{◌≡◌, ◌<◌, ℕ, get_or, true}
use Rattle.hist_types.specs.Edges.{Edge}
use Rattle.edge_graph.specs.Kinds.{includes}
use Rattle.cycle_find.proofs.single.dependency.Given as goal

abbrev pub invariant-loop-edge : goal.invariant-loop-edge
invariant-loop-edge l =
    (k : ℕ) (d : Edge) → k < l.edge-index → (get_or l.edge-items k d).to ≡ l.invocation → ¬ (includes l.kinds (get_or l.edge-items k d).label ≡ true)
