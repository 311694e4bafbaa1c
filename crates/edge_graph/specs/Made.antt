-- How a graph is kept.
use Rattle.std.specs.Prelude.{◌≡◌, ℕ, ◌<◌, List, [], ◌∷◌, ◌++◌, length, take, drop, map, filter, flat_map, All}
use Rattle.hist_types.specs.Edges.{Label, process, realtime_label, Edge, edge}
use Rattle.hist_types.specs.Transactions.{Transaction}
use Rattle.hist_types.specs.declared.types.Level.{Level}
use Rattle.hist_types.specs.declared.types.Level.TheVariants.{Plain, Process, Realtime}
use Rattle.key_versions.specs.Tables.{IsTableOf}
use Rattle.order_frontier.specs.Predecessors.{Before}
use Rattle.dep_edges.specs.Histories.{AreOfHistory, History}
use Rattle.dep_edges.specs.OutEdges as out_edges
use Rattle.dep_edges.specs.Tables.{txn_at}
use Rattle.edge_graph.specs.FlatRows.{Row, led_to}
use Rattle.edge_graph.specs.Kinds.{includes}
use Rattle.edge_graph.specs.LaidOut.{AreRows}
use Rattle.edge_graph.specs.Parts.{Parts, IsOrderOf}
use Rattle.edge_graph.specs.Successors.{Turned, AreTurned}
use Rattle.edge_graph.specs.declared.types.Dependencies.{Dependencies}
use Rattle.edge_graph.specs.declared.types.Kinds.{Kinds}

pub record IsMade (deps history : History) (order : List Before)
    (laid_out : List Row) (turned : Turned) : Type 0 where
  pub keys : deps.table.keys ≡ history.table.keys
  pub txns : deps.txns ≡ history.txns
  pub kept : AreOfHistory history.txns
  pub versions : IsTableOf history.table.keys history.txns history.table
  pub ordered : IsOrderOf history.txns order
  pub rows : AreRows history.txns history.table laid_out
  pub orders : AreTurned history.txns order turned

abbrev pub parts_of : History → List Before → Parts
parts_of history order =
    record {
      keys = history.table.keys;
      txns = history.txns;
      order = order;
      versions = history.table.versions;
    }

-- ---- dependency edges

-- those of the kinds that leave the transaction at the place, after what was there before
abbrev pub AddsDependencies : History → Kinds → (place : ℕ) → (before after : List Edge) → Type 0
AddsDependencies h kinds place before after =
    (es : List Edge)
    × (after ≡ before ++ filter (λ e. includes kinds e.label) es)
    × out_edges.AreEdgesFrom h.table.keys h.txns (txn_at h.txns place) es

-- ---- order edges

abbrev pub order_labels_to : Level → Transaction → (invocation : ℕ) → List Label
order_labels_to Plain t invocation = []
order_labels_to Process t invocation = process t.process ∷ []
order_labels_to Realtime t invocation = realtime_label t.completion invocation

abbrev pub order_edges_to : Level → Transaction → Transaction → List Edge
order_edges_to level t u = map (edge t u) (order_labels_to level t u.invocation)

-- from a transaction to those at the places
abbrev pub order_edges_over : List Transaction → Level → (from : ℕ) → List ℕ → List Edge
order_edges_over ts level from places =
    flat_map (λ place. order_edges_to level (txn_at ts from) (txn_at ts place)) places

-- ---- arcs

-- each vertex's dependencies and, of the first ones, what they come before
abbrev pub joined : Dependencies → List Row → List (List ℕ) → List (List ℕ)
joined dependencies [] lists = []
joined dependencies (row ∷ rows) [] = led_to dependencies row ∷ joined dependencies rows []
joined dependencies (row ∷ rows) (list ∷ lists) =
    (led_to dependencies row ++ list) ∷ joined dependencies rows lists

-- of the first vertices the lists of the one, of all others those of the other
abbrev pub split_at : ℕ → List (List ℕ) → List (List ℕ) → List (List ℕ)
split_at vertices first second = take vertices first ++ drop vertices second

abbrev pub AreWithin : List (List ℕ) → Type 0
AreWithin lists = All (All (λ w. w < length lists)) lists
