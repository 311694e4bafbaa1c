-- The order of all pairs and the thinned one are orders of their transactions.
use Rattle.std.proofs.Common.{◌≡◌, List, map, All, Result, Ok, Err, IfOk}
use Rattle.hist_types.specs.Transactions.{Transaction}
use Rattle.history_laws.proofs.OrderEdges.{all_thinned_edges-order}
use Rattle.order_frontier.specs.Predecessors.{Before, HasOrderEdges, HasThinnedEdges, NoPredecessorTwice, name_of, names}
use Rattle.edge_graph.specs.Parts.{IsOrderOf}

pub order_of_pairs : (ts : List Transaction) (order : List Before) → HasOrderEdges ts order → All NoPredecessorTwice order → names order ≡ map name_of ts → IsOrderOf ts order
order_of_pairs ts order has once named = record { each = named; edges = λ level e c. (has level e).0 c; once = once }

pub thinned_order : (ts : List Transaction) (order : List Before) → HasThinnedEdges ts order → All NoPredecessorTwice order → names order ≡ map name_of ts → IsOrderOf ts order
thinned_order ts order has once named =
    record { each = named; edges = λ level e c. all_thinned_edges-order level ts e ((has level e).0 c); once = once }

-- ---- of a call that may fail

pub order_of_pairs-if_ok : {E : Type 0} (ts : List Transaction) (r : Result (List Before) E) → IfOk r (HasOrderEdges ts) → IfOk r (λ order. All NoPredecessorTwice order) → IfOk r (λ order. names order ≡ map name_of ts) → IfOk r (IsOrderOf ts)
order_of_pairs-if_ok ts (Ok order) has once named = order_of_pairs ts order has once named
order_of_pairs-if_ok ts (Err e) has once named = tt

pub thinned_order-if_ok : {E : Type 0} (ts : List Transaction) (r : Result (List Before) E) → IfOk r (HasThinnedEdges ts) → IfOk r (λ order. All NoPredecessorTwice order) → IfOk r (λ order. names order ≡ map name_of ts) → IfOk r (IsOrderOf ts)
thinned_order-if_ok ts (Ok order) has once named = thinned_order ts order has once named
thinned_order-if_ok ts (Err e) has once named = tt
