-- The place is in the lists of the predecessors so far, and the list's last item.
use Rattle.std.proofs.Common.{◌≡◌, ◌<◌, ◌++◌, ◌∷◌, [], ℕ, All, length, take, if◌then◌else◌}
use Rattle.edge_graph.specs.Runs.{lists_in, IsRunIn, EndsWith}
use Rattle.edge_graph.specs.Successors.{has_place, list_at}
use Rattle.edge_graph.proofs.orders.push_node.Given as goal

abbrev pub invariant-loop-predecessor : goal.invariant-loop-predecessor
invariant-loop-predecessor l = record {
  runs : All (IsRunIn l.nodes.items) l.runs;
  last : EndsWith l.place l.nodes.items;
  lists :
      (first : ℕ)
      → first < length l.initial.runs
      → list_at (lists_in l.nodes.items l.runs) first
      ≡ list_at (lists_in l.fn.nodes.items l.initial.runs) first ++ (if has_place l.places (take l.predecessor-index l.predecessors) first then l.place ∷ [] else []);
}
