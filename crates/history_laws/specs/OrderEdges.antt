-- Order edges by the transactions that they join: the words of the laws about them.
use Rattle.std.specs.Prelude.{◌≡◌, ℕ, List, false, ◌==◌, Contains}
use Rattle.hist_types.specs.Transactions.{Transaction, nodes}
use Rattle.hist_types.specs.Edges.{Label, realtime, Edge, edge, order_labels, order_edges}
use Rattle.hist_types.specs.declared.types.Level.{Level}

-- the edge's first end is among the transactions
abbrev pub LeavesOne : List Transaction → Edge → Type 0
LeavesOne ts e = (t : Transaction) × Contains ts t × (e.from ≡ t.invocation)

-- the edge's second end is among the transactions
abbrev pub LeadsToOne : List Transaction → Edge → Type 0
LeadsToOne ts e = (u : Transaction) × Contains ts u × (e.to ≡ u.invocation)

-- one of the edges leads between the same two transactions in real time
abbrev pub HasRealtimeTwin : List Edge → Edge → Type 0
HasRealtimeTwin es e =
    (completion : ℕ)
    × (invocation : ℕ)
    × Contains es (record { from = e.from; to = e.to; label = realtime completion invocation })

-- for any transactions, the first edges are among the second
abbrev pub AreSubEdges : (List Transaction → List Edge) → (List Transaction → List Edge) → Type 0
AreSubEdges edges others =
    (ts : List Transaction) (e : Edge) → Contains (edges ts) e → Contains (others ts) e

-- for any transactions, each of the edges leaves a node
abbrev pub LeaveNodes : (List Transaction → List Edge) → Type 0
LeaveNodes edges =
    (ts : List Transaction) (e : Edge) → Contains (edges ts) e → LeavesOne (nodes ts) e

-- for any transactions, each of the edges leads to a node
abbrev pub LeadToNodes : (List Transaction → List Edge) → Type 0
LeadToNodes edges =
    (ts : List Transaction) (e : Edge) → Contains (edges ts) e → LeadsToOne (nodes ts) e

-- for any transactions, each of the first edges has a twin in real time among the second
abbrev pub HaveRealtimeTwins :
    (List Transaction → List Edge) → (List Transaction → List Edge) → Type 0
HaveRealtimeTwins edges others =
    (ts : List Transaction) (e : Edge) → Contains (edges ts) e → HasRealtimeTwin (others ts) e

-- an order edge leads from each transaction to each other one that is a node, for each label by
-- which the level orders the two
abbrev pub OrderEdgesJoinAllPairs : Level → List Transaction → Type 0
OrderEdgesJoinAllPairs level ts =
    (t u : Transaction) (label : Label)
    → Contains ts t
    → Contains (nodes ts) u
    → (t.invocation == u.invocation) ≡ false
    → Contains (order_labels level t u) label
    → Contains (order_edges level ts) (edge t u label)
