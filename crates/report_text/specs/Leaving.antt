-- The dependency edges of a history, transaction by transaction.
use Rattle.std.specs.Prelude.{◌≡◌, ◌==◌, ℕ, List, ◌++◌, filter, length}
use Rattle.hist_types.specs.Edges.{Edge, dependency_edges}
use Rattle.hist_types.specs.EdgeOrder.{in_order}
use Rattle.hist_types.specs.Texts.{edge_lines}
use Rattle.hist_types.specs.Transactions.{Transaction}
use Rattle.hist_types.specs.declared.types.KeyOrder.{KeyOrder}

-- those that leave a transaction, in order
abbrev pub edges_leaving : KeyOrder → List Transaction → Transaction → List Edge
edges_leaving keys ts t =
    filter (λ (e : Edge). e.from == t.invocation) (in_order (dependency_edges keys ts))

-- all edges in order
abbrev pub all_edges : KeyOrder → List Transaction → List Edge
all_edges keys ts = in_order (dependency_edges keys ts)

-- a text was continued by the lines of all edges, in order, and they are that many
abbrev pub IsContinuedByAll :
    KeyOrder → List Transaction → (text text' : List ℕ) → (count : ℕ) → Type 0
IsContinuedByAll keys ts text text' count =
    (text' ≡ text ++ edge_lines (all_edges keys ts)) × (count ≡ length (all_edges keys ts))
