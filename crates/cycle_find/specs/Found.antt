-- What a search for a phenomenon answers.
use Rattle.std.specs.Prelude.{◌↔◌, ℕ, ◌<◌, ◌≤◌, List, ◌++◌, Contains, Option, Some, None, ⊤}
use Rattle.hist_types.specs.Edges.{Edge, dependency_edges}
use Rattle.hist_types.specs.Phenomena.{IsShownBy, Shows}
use Rattle.hist_types.specs.ThinnedOrder.{thinned_edges}
use Rattle.hist_types.specs.Witness.{dependencies_in, HasFewest}
use Rattle.hist_types.specs.declared.types.Phenomenon.{Phenomenon}
use Rattle.hist_types.specs.declared.types.Level.{Level}
use Rattle.edge_graph.specs.Kinds.{AreAmong}
use Rattle.edge_graph.specs.Parts.{Parts, edges_in}
use Rattle.edge_graph.specs.declared.types.Dependencies.{Dependencies}
use Rattle.cycle_find.specs.Dependencies.{whole}
use Rattle.cycle_find.specs.Tasks.{Task}

-- a walk that shows the phenomenon and uses these edges only, or nothing where there is none
abbrev pub IsFound : Phenomenon → List Edge → Option (List Edge) → Type 0
IsFound phenomenon es None = ¬ IsShownBy phenomenon es
IsFound phenomenon es (Some walk) = Shows phenomenon es walk

-- ---- the fewest dependency edges

-- a walk that shows the phenomenon with the fewest dependency edges
pub record ShowsByFewest (phenomenon : Phenomenon) (es walk : List Edge) : Type 0 where
  pub shows : Shows phenomenon es walk
  pub fewest : HasFewest phenomenon es walk

-- each walk that shows the phenomenon has more than n of them
abbrev pub NeedsMoreThan : (n : ℕ) → Phenomenon → List Edge → Type 0
NeedsMoreThan n phenomenon es =
    (walk : List Edge) → Shows phenomenon es walk → n < dependencies_in walk

-- each has so many of them at least
abbrev pub NeedsAtLeast : (least : ℕ) → Phenomenon → List Edge → Type 0
NeedsAtLeast least phenomenon es =
    (walk : List Edge) → Shows phenomenon es walk → least ≤ dependencies_in walk

-- the graph's order edges at the level are the thinned ones
abbrev pub IsThinnedAt : Parts → Level → Type 0
IsThinnedAt g level =
    (e : Edge)
    → Contains (edges_in g level) e
    ↔ Contains (dependency_edges g.keys g.txns ++ thinned_edges level g.txns) e

-- such a walk, or nothing where this holds
abbrev pub IsFewestOr : Task → Type 0 → Option (List Edge) → Type 0
IsFewestOr task Otherwise None = Otherwise
IsFewestOr task Otherwise (Some walk) =
    ShowsByFewest task.phenomenon (edges_in task.graph task.level) walk

-- or nothing where each walk needs more than n, if the order is thinned
abbrev pub IsFoundByFewest : (n : ℕ) → Task → Option (List Edge) → Type 0
IsFoundByFewest n task =
    IsFewestOr task
    (IsThinnedAt task.graph task.level
    → NeedsMoreThan n task.phenomenon (edges_in task.graph task.level))

-- if the order is thinned, no walk has fewer
abbrev pub HasFewestIfAny : Task → Option (List Edge) → Type 0
HasFewestIfAny task None = ⊤
HasFewestIfAny task (Some walk) =
    IsThinnedAt task.graph task.level
    → HasFewest task.phenomenon (edges_in task.graph task.level) walk

-- ---- no walk

-- the edges show no phenomenon whose walks go along these dependencies alone
abbrev pub ShowNoneOver : Dependencies → List Edge → Type 0
ShowNoneOver dependencies es =
    (phenomenon : Phenomenon) → AreAmong (whole phenomenon) dependencies → ¬ IsShownBy phenomenon es

abbrev pub ShowNoneOverAny : Option Dependencies → List Edge → Type 0
ShowNoneOverAny None es = ⊤
ShowNoneOverAny (Some dependencies) es = ShowNoneOver dependencies es
