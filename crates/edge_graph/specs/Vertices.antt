-- What searches for cycles go over in place of the edges.
--
-- A version that many transactions read and many others follow has reader times follower rw edges.
-- So each version is a vertex too, after the transactions: who reads it leads to it, and it leads
-- to the nodes that install a version after it. All other edges are arcs from transaction to
-- transaction.
use Rattle.std.specs.Prelude.{◌≡◌, ◌↔◌, ℕ, ◌+◌, List, [], length, IsTrue, Some, slice_get, slice_index_or, Contains}
use Rattle.graph_search.specs.Graphs.{Graph, HasArc}
use Rattle.hist_types.specs.Edges.{Label, rw, edge, dependency_edges}
use Rattle.hist_types.specs.Transactions.{Transaction, Version, nodes, is_known_to_read, installs}
use Rattle.hist_types.specs.Versions.{pair, version_pairs}
use Rattle.hist_types.specs.declared.types.KeyOrder.{KeyOrder}
use Rattle.edge_graph.specs.Kinds.{includes_directly}
use Rattle.edge_graph.specs.Parts.{Parts, HasEdge}
use Rattle.edge_graph.specs.declared.types.Kinds.{Kinds}

pub data Vertex : Type 0 where
  txn : Transaction → Vertex
  version : Version → Vertex

-- the transactions by place, and after them the versions by number
abbrev pub IsVertex : Parts → ℕ → Vertex → Type 0
IsVertex g vertex (txn t) = slice_get g.txns vertex ≡ Some t
IsVertex g vertex (version v) =
    (number : ℕ) × (vertex ≡ length g.txns + number) × (slice_get g.versions number ≡ Some v)

-- the transaction is a node that installs a version after this one
abbrev pub Follows : KeyOrder → List Transaction → Version → Transaction → Type 0
Follows keys ts v u =
    Contains (nodes ts) u
    × (w : Version)
    × Contains (version_pairs keys ts) (pair v w)
    × IsTrue (installs u w)

-- some edge of the kinds other than rw joins the transactions
abbrev pub LeadsDirectly : Parts → Kinds → Transaction → Transaction → Type 0
LeadsDirectly g kinds t u =
    (label : Label)
    × HasEdge g kinds.level (edge t u label)
    × IsTrue (includes_directly kinds label)

abbrev pub LeadsTo : Parts → Kinds → Vertex → Vertex → Type 0
LeadsTo g kinds (txn t) (txn u) = LeadsDirectly g kinds t u
LeadsTo g kinds (txn t) (version v) = IsTrue kinds.rw × IsTrue (is_known_to_read t v)
LeadsTo g kinds (version v) (txn u) = IsTrue kinds.rw × Follows g.keys g.txns v u
LeadsTo g kinds (version v) (version w) = ⊥

-- the vertices at two numbers, of which the first leads to the second
abbrev pub IsArc : Parts → Kinds → ℕ → ℕ → Type 0
IsArc g kinds v w =
    (x : Vertex) × (y : Vertex) × IsVertex g v x × IsVertex g w y × LeadsTo g kinds x y

-- the graph in which each vertex has these successors
abbrev pub graph_by : List (List ℕ) → Graph
graph_by lists = record { count = length lists; successors = λ v. slice_index_or lists v [] }

-- exactly these arcs between exactly the vertices
pub record AreArcsThat (g : Parts) (Leads : ℕ → ℕ → Type 0) (lists : List (List ℕ)) : Type 0 where
  pub count : length lists ≡ length g.txns + length g.versions
  pub arcs : (v w : ℕ) → HasArc (graph_by lists) v w ↔ Leads v w

-- exactly the arcs of the kinds
abbrev pub AreArcs : Parts → Kinds → List (List ℕ) → Type 0
AreArcs g kinds = AreArcsThat g (IsArc g kinds)

-- some rw edge joins the transactions
abbrev pub HasRw : KeyOrder → List Transaction → Transaction → Transaction → Type 0
HasRw keys ts t u =
    (earlier : Version)
    × (later : Version)
    × Contains (dependency_edges keys ts) (edge t u (rw earlier later))

-- the one reads a version and the other one, another transaction, installs one after it
abbrev pub LeadsByVersion : Parts → Transaction → Transaction → Type 0
LeadsByVersion g t u =
    ¬ (t.invocation ≡ u.invocation)
    × (v : Version)
    × Contains g.versions v
    × IsTrue (is_known_to_read t v)
    × Follows g.keys g.txns v u

-- some rw edge joins two transactions exactly where one of the versions leads from the one to the
-- other
abbrev pub RwByVersions : Parts → Type 0
RwByVersions g =
    (t u : Transaction)
    → Contains g.txns t
    → Contains g.txns u
    → HasRw g.keys g.txns t u ↔ LeadsByVersion g t u
