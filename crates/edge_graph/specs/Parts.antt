-- What a graph of transactions is made of, and its edges: the dependency edges, and of a level's
-- order edges those whose second end is a node. (The first end of an order edge is ok, and so is a
-- node.) The order may be the one of all pairs or a thinned one.
use Rattle.std.specs.Prelude.{◌≡◌, ◌↔◌, ◌⊎◌, ◌==◌, ℕ, Bool, List, ◌++◌, IsTrue, Some, slice_get, map, filter, All, Contains}
use Rattle.std.specs.List.{list_any}
use Rattle.hist_types.specs.Edges.{Edge, dependency_edges, all_order_edges}
use Rattle.history_laws.specs.OrderEdges.{LeadsToOne}
use Rattle.hist_types.specs.Transactions.{Transaction, Version, has_version, nodes}
use Rattle.hist_types.specs.declared.types.KeyOrder.{KeyOrder}
use Rattle.hist_types.specs.declared.types.Level.{Level}
use Rattle.key_versions.specs.Histories.{is_named}
use Rattle.order_frontier.specs.Predecessors as predecessors
use Rattle.order_frontier.specs.Predecessors.{Before, edges_of, name_of, names}
use Rattle.hist_types.specs.Lists.{NoneTwice}
use Rattle.edge_graph.specs.Kinds.{includes}
use Rattle.edge_graph.specs.declared.types.Kinds.{Kinds}

pub record Parts : Type 0 where
  pub keys : KeyOrder
  pub txns : List Transaction
  pub order : List Before
  -- the versions that the transactions name
  pub versions : List Version

-- what comes before each of the transactions: by order edges alone, none of them twice
pub record IsOrderOf (ts : List Transaction) (order : List Before) : Type 0 where
  pub each : names order ≡ map name_of ts
  pub edges :
      (level : Level) (e : Edge)
      → Contains (edges_of level order) e
      → Contains (all_order_edges level ts) e
  pub once : All predecessors.NoPredecessorTwice order

pub record IsMadeOf (keys : KeyOrder) (ts : List Transaction) (before : List Before)
    (g : Parts) : Type 0 where
  pub keys_are : g.keys ≡ keys
  pub txns : g.txns ≡ ts
  pub order : g.order ≡ before
  pub versions : (v : Version) → has_version g.versions v ≡ is_named ts v

-- ---- edges

-- the edge's second end is among the transactions
abbrev pub leads_to_one : List Transaction → Edge → Bool
leads_to_one ts e = list_any (λ (u : Transaction). e.to == u.invocation) ts

abbrev pub edges_in : Parts → Level → List Edge
edges_in g level =
    dependency_edges g.keys g.txns ++ filter (leads_to_one (nodes g.txns)) (edges_of level g.order)

-- the same, said of one edge

abbrev pub HasEdge : Parts → Level → Edge → Type 0
HasEdge g level e =
    Contains (dependency_edges g.keys g.txns) e
    ⊎ (Contains (edges_of level g.order) e × LeadsToOne (nodes g.txns) e)

-- the edge leaves the transaction at the place
abbrev pub Leaves : Parts → ℕ → Edge → Type 0
Leaves g place e = (t : Transaction) × (slice_get g.txns place ≡ Some t) × (e.from ≡ t.invocation)

-- exactly the graph's edges of the kinds that leave the transaction, none of them twice
pub record AreEdgesFrom (g : Parts) (kinds : Kinds) (place : ℕ) (es : List Edge) : Type 0 where
  pub exactly :
      (e : Edge)
      → Contains es e
      ↔ (HasEdge g kinds.level e × IsTrue (includes kinds e.label) × Leaves g place e)
  pub once : NoneTwice es

-- these, after what was there before
abbrev pub AddsEdgesFrom : Parts → Kinds → (place : ℕ) → (before after : List Edge) → Type 0
AddsEdgesFrom g kinds place before after =
    (es : List Edge) × (after ≡ before ++ es) × AreEdgesFrom g kinds place es
