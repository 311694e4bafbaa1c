-- Edges between two transactions, and the edges of a walk over arcs.
--
-- A walk over arcs goes from one transaction to the next directly, by an edge other than rw, or by
-- way of a version, by an rw edge; where the transaction that reads a version installs the next one
-- itself, there is no edge.
use Rattle.std.specs.Prelude.{◌≡◌, ℕ, ◌-◌, List, length, slice_index, IsTrue, Option, Some, None, Contains, All, ⊤}
use Rattle.graph_search.specs.Graphs.{IsWalk}
use Rattle.hist_types.specs.Edges.{Edge}
use Rattle.hist_types.specs.Phenomena.{Leads, is_order}
use Rattle.hist_types.specs.declared.types.Level.{Level}
use Rattle.hist_types.specs.declared.types.Level.TheVariants.{Plain}
use Rattle.dep_edges.specs.Tables.{IsPlace, txn_at}
use Rattle.edge_graph.specs.Kinds.{includes, kinds_of}
use Rattle.edge_graph.specs.Parts.{Parts, edges_in}
use Rattle.edge_graph.specs.Vertices.{IsArc}
use Rattle.edge_graph.specs.declared.types.Dependencies.{Dependencies}
use Rattle.edge_graph.specs.declared.types.Dependencies.TheVariants as dependencies
use Rattle.edge_graph.specs.declared.types.Kinds.{Kinds}

-- the edge leads from the transaction at the one place to that at the other
pub record LeadsBetween (g : Parts) (from to : ℕ) (e : Edge) : Type 0 where
  pub first : IsPlace g.txns from
  pub last : IsPlace g.txns to
  pub begins : e.from ≡ (txn_at g.txns from).invocation
  pub ends : e.to ≡ (txn_at g.txns to).invocation

-- an edge of the kinds
pub record IsEdgeOf (g : Parts) (kinds : Kinds) (e : Edge) : Type 0 where
  pub among : Contains (edges_in g kinds.level) e
  pub kind : IsTrue (includes kinds e.label)

pub record IsEdgeBetween (g : Parts) (kinds : Kinds) (from to : ℕ) (e : Edge) : Type 0 where
  pub edge : IsEdgeOf g kinds e
  pub leads : LeadsBetween g from to e

abbrev pub HasEdgeBetween : Parts → Kinds → (from to : ℕ) → Type 0
HasEdgeBetween g kinds from to = (e : Edge) × IsEdgeBetween g kinds from to e

-- such an edge, or nothing where there is none
abbrev pub IsEdgeIfAny : Parts → Kinds → (from to : ℕ) → Option Edge → Type 0
IsEdgeIfAny g kinds from to None = (e : Edge) → ¬ IsEdgeBetween g kinds from to e
IsEdgeIfAny g kinds from to (Some e) = IsEdgeBetween g kinds from to e

-- such an edge, if there is one, is an order edge where some order edge leads there
abbrev pub IsOrderEdgeIfAny : Parts → Level → (from to : ℕ) → Option Edge → Type 0
IsOrderEdgeIfAny g level from to None = ⊤
IsOrderEdgeIfAny g level from to (Some e) =
    HasEdgeBetween g (kinds_of dependencies.None level) from to → IsTrue (is_order e)

-- ---- one edge as arcs

-- an arc between two transactions
pub record IsDirectArc (g : Parts) (kinds : Kinds) (from to : ℕ) : Type 0 where
  pub first : IsPlace g.txns from
  pub last : IsPlace g.txns to
  pub arc : IsArc g kinds from to

-- arcs from a transaction to a version and on to another transaction
pub record IsWayByVersion (g : Parts) (kinds : Kinds) (from version to : ℕ) : Type 0 where
  pub first : IsPlace g.txns from
  pub between : ¬ IsPlace g.txns version
  pub last : IsPlace g.txns to
  pub other : ¬ (from ≡ to)
  pub reads : IsArc g kinds from version
  pub follows : IsArc g kinds version to

-- the edge's ends have such an arc, or such a way, by these dependencies alone
abbrev pub HasDirectArc : Parts → Dependencies → Edge → Type 0
HasDirectArc g d e =
    (from to : ℕ) × LeadsBetween g from to e × IsDirectArc g (kinds_of d Plain) from to

abbrev pub HasWayByVersion : Parts → Dependencies → Edge → Type 0
HasWayByVersion g d e =
    (from version to : ℕ)
    × LeadsBetween g from to e
    × IsWayByVersion g (kinds_of d Plain) from version to

-- ---- walks

-- a walk over the arcs of the kinds, from the transaction at the one place to that at the other
pub record IsWalkBetween (g : Parts) (kinds : Kinds) (from to : ℕ) (walk : List ℕ) : Type 0 where
  pub first : IsPlace g.txns from
  pub last : IsPlace g.txns to
  pub steps : IsWalk (IsArc g kinds) from to walk

abbrev pub HasWalkBetween : Parts → Kinds → (from to : ℕ) → Type 0
HasWalkBetween g kinds from to = (walk : List ℕ) × IsWalkBetween g kinds from to walk

-- edges of the kinds that lead from the one transaction to the other
pub record AreEdgesBetween (g : Parts) (kinds : Kinds) (from to : ℕ) (es : List Edge) : Type 0 where
  pub leads : Leads (txn_at g.txns from).invocation es (txn_at g.txns to).invocation
  pub among : All (Contains (edges_in g kinds.level)) es
  pub of_kinds : All (λ e. IsTrue (includes kinds e.label)) es

-- a walk from some transaction to some transaction
abbrev pub IsTxnWalk : Parts → Kinds → List ℕ → Type 0
IsTxnWalk g kinds walk = (from to : ℕ) × IsWalkBetween g kinds from to walk

-- edges of the kinds, from the walk's first transaction to its last one
abbrev pub AreEdgesAlong : Parts → Kinds → (walk : List ℕ) → List Edge → Type 0
AreEdgesAlong g kinds walk es =
    AreEdgesBetween g kinds (slice_index walk 0) (slice_index walk (length walk - 1)) es
