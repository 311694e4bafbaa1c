-- What a search looks for, and where: an edge of the needed kind from one transaction to another,
-- with a way back.
use Rattle.std.specs.Prelude.{ℕ, ◌+◌, List, length, Contains, Option, Some, None, option_map, Vec}
use Rattle.std.specs.Global.{Global}
use Rattle.graph_search.specs.Graphs.{IsWalkIfAny}
use Rattle.hist_types.specs.Edges.{Edge}
use Rattle.hist_types.specs.Phenomena.{Shows}
use Rattle.hist_types.specs.declared.types.Level.{Level}
use Rattle.hist_types.specs.declared.types.Level.TheVariants.{Plain}
use Rattle.hist_types.specs.declared.types.Phenomenon.{Phenomenon}
use Rattle.dep_edges.specs.Tables.{IsPlace}
use Rattle.edge_graph.specs.Kinds.{kinds_of}
use Rattle.edge_graph.specs.Parts.{Parts, edges_in}
use Rattle.edge_graph.specs.Vertices.{IsArc}
use Rattle.edge_graph.specs.Walks.{HasEdgeBetween, HasWalkBetween}
use Rattle.edge_graph.specs.declared.types.Kinds.{Kinds}
use Rattle.cycle_find.specs.Dependencies.{needed, way_back, whole}
use Rattle.cycle_find.specs.Ways.{LeadsOn}

-- a graph at a level
pub record Site : Type 0 where
  pub graph : Parts
  pub level : Level

abbrev pub site_of : Parts → Level → Site
site_of graph level = record { graph = graph; level = level }

pub record Task : Type 0 where
  pub graph : Parts
  pub phenomenon : Phenomenon
  pub level : Level

abbrev pub task_of : Parts → Phenomenon → Level → Task
task_of graph phenomenon level = record { graph = graph; phenomenon = phenomenon; level = level }

-- the kinds of its needed edge, which is a dependency, of its way back, and of all of its walk
abbrev pub needed_kinds : Task → Kinds
needed_kinds task = kinds_of (needed task.phenomenon) Plain

abbrev pub back_kinds : Task → Kinds
back_kinds task = kinds_of (way_back task.phenomenon) task.level

abbrev pub whole_kinds : Task → Kinds
whole_kinds task = kinds_of (whole task.phenomenon) task.level

abbrev pub vertices_in : Parts → ℕ
vertices_in g = length g.txns + length g.versions

-- all of the one are among the other
abbrev pub Includes : List (ℕ × ℕ) → List (ℕ × ℕ) → Type 0
Includes few more = (pair : ℕ × ℕ) → Contains few pair → Contains more pair

-- ---- answers

-- an edge of the needed kind from the transaction at the one place to that at the other has a way
-- back
abbrev pub HasReturnBetween : Task → (from to : ℕ) → Type 0
HasReturnBetween task from to =
    HasEdgeBetween task.graph (needed_kinds task) from to
    × HasWalkBetween task.graph (back_kinds task) to from

-- a walk over the arcs of a way back, or nothing where there is none
abbrev pub IsWayBackIfAny : Task → (from to : ℕ) → Option (Vec ℕ Global) → Type 0
IsWayBackIfAny task from to way =
    let walk = option_map (λ (walk : Vec ℕ Global). walk.items) way in
    IsWalkIfAny (IsArc task.graph (back_kinds task)) from to walk

-- a walk that shows the phenomenon, or nothing where this holds
abbrev pub IsShownOr : Task → Type 0 → Option (List Edge) → Type 0
IsShownOr task Otherwise None = Otherwise
IsShownOr task Otherwise (Some walk) =
    Shows task.phenomenon (edges_in task.graph task.level) walk

-- ---- arcs of needed edges

-- no needed edge from the one transaction by the vertex has a way back
abbrev pub NoneBy : Task → (from by : ℕ) → Type 0
NoneBy task from by =
    (to : ℕ)
    → IsPlace task.graph.txns to
    → LeadsOn task.graph (needed_kinds task) from by to
    → ¬ HasReturnBetween task from to

-- none from the transaction
abbrev pub NoneFrom : Task → (from : ℕ) → Type 0
NoneFrom task from = (by : ℕ) → IsArc task.graph (needed_kinds task) from by → NoneBy task from by
