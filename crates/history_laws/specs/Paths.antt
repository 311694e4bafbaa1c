-- Order edges as paths of thinned ones (this project's own): the words of the laws about them.
--
-- Take any set of nodes with all ok transactions in it. Each order edge between two of them is a
-- path of thinned edges, and each such path is an order edge between its ends.
use Rattle.std.specs.Prelude.{◌≡◌, ◌↔◌, ℕ, List, [], All, Contains, IsTrue}
use Rattle.hist_types.specs.Operations.{Operation}
use Rattle.hist_types.specs.Transactions.{Transaction, transactions_of, is_ok}
use Rattle.hist_types.specs.Edges.{Edge, order_labels, between_each}
use Rattle.hist_types.specs.declared.types.Level.{Level}
use Rattle.hist_types.specs.ThinnedOrder.{thinned_labels}
use Rattle.hist_types.specs.Phenomena.{Leads}

-- the nodes are transactions of the list, with all its ok ones among them
pub record IncludesAllOk (ts ns : List Transaction) : Type 0 where
  pub among : All (Contains ts) ns
  pub ok : (t : Transaction) → Contains ts t → IsTrue (is_ok t) → Contains ns t

-- the order edges between these nodes
abbrev pub order_edges_between : Level → List Transaction → List Edge
order_edges_between level ns = between_each ns (order_labels level)

-- the thinned ones, with no ok transaction of ts in between
abbrev pub thinned_edges_between : Level → List Transaction → List Transaction → List Edge
thinned_edges_between level ts ns = between_each ns (thinned_labels level ts)

-- one of the edges leads from the first transaction to the second
abbrev pub HasEdge : List Edge → ℕ → ℕ → Type 0
HasEdge es from to = (e : Edge) × Contains es e × (e.from ≡ from) × (e.to ≡ to)

-- a walk along these edges from the first transaction to the second, of at least one edge
pub record IsPath (es : List Edge) (from to : ℕ) (path : List Edge) : Type 0 where
  pub some : ¬ (path ≡ [])
  pub leads : Leads from path to
  pub within : All (Contains es) path

abbrev pub HasPath : List Edge → ℕ → ℕ → Type 0
HasPath es from to = (path : List Edge) × IsPath es from to path

-- the first edges lead from one transaction to another exactly where a path along the others does
abbrev pub ArePathsAlong : List Edge → List Edge → Type 0
ArePathsAlong es others = (from to : ℕ) → HasEdge es from to ↔ HasPath others from to

-- order edges between nodes with all ok transactions of the history are paths along thinned ones
abbrev pub OrderEdgesArePaths : Level → List Operation → Type 0
OrderEdgesArePaths level events =
    let ts = transactions_of events in
    (ns : List Transaction)
    → IncludesAllOk ts ns
    → ArePathsAlong (order_edges_between level ns) (thinned_edges_between level ts ns)
