-- Closed walks with one dependency edge: a needed edge, and order edges from its second end back to
-- its first.
use Rattle.std.specs.Prelude.{◌≡◌, ◌⊎◌, ℕ, ◌+◌, ◌<◌, List, length, IsTrue, Option, Some, None, option_map, Vec}
use Rattle.std.specs.Global.{Global}
use Rattle.graph_search.specs.Graphs.{IsWalkIfAny}
use Rattle.hist_types.specs.ThinnedOrder.{is_ordered}
use Rattle.dep_edges.specs.Histories.{AreOfHistory}
use Rattle.dep_edges.specs.Tables.{IsPlace, txn_at}
use Rattle.edge_graph.specs.Kinds.{kinds_of}
use Rattle.edge_graph.specs.Vertices.{IsArc, AreArcs, RwByVersions}
use Rattle.edge_graph.specs.Walks.{HasEdgeBetween, IsDirectArc, IsWayByVersion}
use Rattle.edge_graph.specs.declared.types.Dependencies.TheVariants as dependencies
use Rattle.edge_graph.specs.declared.types.Kinds.{Kinds}
use Rattle.cycle_find.specs.Completions.{IsKnown}
use Rattle.cycle_find.specs.Tasks.{Task, needed_kinds}
use Rattle.cycle_find.specs.declared.completions.Earliest.{Earliest}
use Rattle.cycle_find.specs.declared.one_dependency.Ends.{Ends}

-- ---- the search

-- the arcs of the needed edges
pub record IsReadyForOne (task : Task) (needed : List (List ℕ)) : Type 0 where
  pub kept : AreOfHistory task.graph.txns
  pub by_versions : RwByVersions task.graph
  pub needed_arcs : AreArcs task.graph (needed_kinds task) needed

-- the order of the task's level alone
abbrev pub order_kinds : Task → Kinds
order_kinds task = kinds_of dependencies.None task.level

-- a walk over the arcs of the order, or nothing where there is none
abbrev pub IsPathIfAny : Task → (from to : ℕ) → Option (Vec ℕ Global) → Type 0
IsPathIfAny task from to path =
    let walk = option_map (λ (walk : Vec ℕ Global). walk.items) path in
    IsWalkIfAny (IsArc task.graph (order_kinds task)) from to walk

-- the order puts the transaction at the one place before that at the other
abbrev pub IsBefore : Task → (first second : ℕ) → Type 0
IsBefore task first second =
    IsTrue (is_ordered task.level (txn_at task.graph.txns first) (txn_at task.graph.txns second))

-- a needed edge, of which the second end comes before the first
pub record AreClosing (task : Task) (ends : Ends) : Type 0 where
  pub first : IsPlace task.graph.txns ends.from
  pub last : IsPlace task.graph.txns ends.to
  pub edge : HasEdgeBetween task.graph (needed_kinds task) ends.from ends.to
  pub back : IsBefore task ends.to ends.from

-- such ends, or nothing where this holds
abbrev pub AreClosingOr : Task → Type 0 → Option Ends → Type 0
AreClosingOr task Otherwise None = Otherwise
AreClosingOr task Otherwise (Some ends) = AreClosing task ends

-- one of the two, or nothing where there are none
abbrev pub IsEither : (one other result : Option Ends) → Type 0
IsEither one other None = (one ≡ None) × (other ≡ None)
IsEither one other (Some ends) = (one ≡ Some ends) ⊎ (other ≡ Some ends)

-- no needed edge is of that kind which has an arc of its own from the transaction
abbrev pub NoneClosingFrom : Task → (from : ℕ) → Type 0
NoneClosingFrom task from =
    (to : ℕ) → IsDirectArc task.graph (needed_kinds task) from to → ¬ IsBefore task to from

abbrev pub NoneClosing : Task → Type 0
NoneClosing task = (from : ℕ) → IsPlace task.graph.txns from → NoneClosingFrom task from

-- ---- edges by way of a version

abbrev pub IsVertex : Task → ℕ → Type 0
IsVertex task vertex = vertex < length task.graph.txns + length task.graph.versions

-- none by way of the version's vertex from the transaction
abbrev pub NoneClosingFromBy : Task → (from version : ℕ) → Type 0
NoneClosingFromBy task from version =
    (to : ℕ)
    → IsWayByVersion task.graph (needed_kinds task) from version to
    → ¬ IsBefore task to from

abbrev pub NoneClosingBy : Task → (version : ℕ) → Type 0
NoneClosingBy task version = (from : ℕ) → NoneClosingFromBy task from version

-- the completion of each follower of the version is known, or an earlier one of its lane
abbrev pub AreKnown : Task → (version : ℕ) → List (ℕ × Earliest) → Type 0
AreKnown task version earliest =
    (to : ℕ)
    → IsArc task.graph (needed_kinds task) version to
    → IsKnown task.level version (txn_at task.graph.txns to) earliest
