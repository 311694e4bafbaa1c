-- The two edges of a closed walk that is found without a graph.
use Rattle.std.specs.Prelude.{◌≡◌, ℕ, List, IsTrue, Contains, Option, Some, None}
use Rattle.hist_types.specs.Edges.{process, Edge, dependency_edges, edges_at, order_edges}
use Rattle.hist_types.specs.Transactions.{Transaction}
use Rattle.hist_types.specs.declared.types.Level.TheVariants.{Plain, Process}
use Rattle.hist_types.specs.declared.types.Phenomenon.{Phenomenon}
use Rattle.dep_edges.specs.Histories.{History}
use Rattle.dep_edges.specs.Tables.{IsPlace, txn_at}
use Rattle.edge_graph.specs.Kinds.{includes, kinds_of}
use Rattle.edge_graph.specs.declared.types.Dependencies.{Dependencies}
use Rattle.edge_graph.specs.declared.types.Kinds.{Kinds}
use Rattle.cycle_find.specs.Found.{ShowsByFewest}

-- the edge leads from the transaction at the one place to that at the other
pub record Joins (ts : List Transaction) (from to : ℕ) (e : Edge) : Type 0 where
  pub begins : e.from ≡ (txn_at ts from).invocation
  pub ends : e.to ≡ (txn_at ts to).invocation

-- a dependency edge of the kinds
pub record IsDependencyBetween (h : History) (kinds : Kinds) (from to : ℕ) (e : Edge)
    : Type 0 where
  pub among : Contains (dependency_edges h.table.keys h.txns) e
  pub kind : IsTrue (includes kinds e.label)
  pub joins : Joins h.txns from to e

-- such an edge, or nothing where there is none between these places
abbrev pub IsDependencyIfAny : History → Kinds → (from to : ℕ) → Option Edge → Type 0
IsDependencyIfAny h kinds from to None =
    IsPlace h.txns from → IsPlace h.txns to → (e : Edge) → ¬ IsDependencyBetween h kinds from to e
IsDependencyIfAny h kinds from to (Some e) = IsDependencyBetween h kinds from to e

-- there is such an edge
abbrev pub HasDependency : History → Dependencies → (from to : ℕ) → Type 0
HasDependency h kind from to = (e : Edge) × IsDependencyBetween h (kinds_of kind Plain) from to e

-- an edge of the one kind leads from one transaction to another, and one of the other kind back
pub record AreMutual (h : History) (there back : Dependencies) (from to : ℕ) : Type 0 where
  pub first : IsPlace h.txns from
  pub last : IsPlace h.txns to
  pub leads : HasDependency h there from to
  pub returns : HasDependency h back to from

-- a walk that shows the phenomenon at plain with the fewest edges, or nothing where this holds
abbrev pub AreTwoOr : Phenomenon → History → Type 0 → Option (List Edge) → Type 0
AreTwoOr phenomenon h Otherwise None = Otherwise
AreTwoOr phenomenon h Otherwise (Some walk) =
    ShowsByFewest phenomenon (edges_at h.table.keys Plain h.txns) walk

pub record IsProcessEdgeBetween (ts : List Transaction) (from to : ℕ) (e : Edge) : Type 0 where
  pub among : Contains (order_edges Process ts) e
  pub label : e.label ≡ process (txn_at ts from).process
  pub joins : Joins ts from to e
