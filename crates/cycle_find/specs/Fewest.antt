-- Closed walks with few dependency edges: a needed edge, and a way back with at most so many of them.
use Rattle.std.specs.Prelude.{◌≡◌, ◌↔◌, ℕ, suc, ◌<◌, ◌≤◌, List, [], length, slice_index, slice_index_or, nat_lt, nat_le, ◌&&◌, ◌||◌, ◌==◌, Bool, Contains, Option, Some, None}
use Rattle.std.specs.List.{list_any}
use Rattle.dep_edges.specs.Histories.{AreOfHistory}
use Rattle.edge_graph.specs.Costs.{IsFreeArc, IsPaidArc}
use Rattle.edge_graph.specs.Parts.{edges_in}
use Rattle.edge_graph.specs.Vertices.{IsArc, AreArcs, AreArcsThat, RwByVersions, graph_by}
use Rattle.edge_graph.specs.Walks.{HasEdgeBetween}
use Rattle.graph_search.specs.Costs.{BoundsWalks, IsWalkWithin, Labelling, LeadsWithin}
use Rattle.graph_search.specs.Graphs.{HasArc, VertexSet}
use Rattle.hist_types.specs.Edges.{Edge}
use Rattle.hist_types.specs.Phenomena.{Shows}
use Rattle.hist_types.specs.Witness.{dependencies_in}
use Rattle.cycle_find.specs.Dependencies.{way_back}
use Rattle.cycle_find.specs.Tasks.{Task, needed_kinds, vertices_in}

-- arcs of a way back that cost no dependency edge, and those that cost one
abbrev pub IsFreeBack : Task → ℕ → ℕ → Type 0
IsFreeBack task = IsFreeArc task.graph (way_back task.phenomenon) task.level

abbrev pub IsPaidBack : Task → ℕ → ℕ → Type 0
IsPaidBack task = IsPaidArc task.graph (way_back task.phenomenon)

-- an edge of the needed kind from the transaction at the one place to that at the other has a way
-- back with at most so many dependency edges
abbrev pub HasReturnWithin : Task → (most from to : ℕ) → Type 0
HasReturnWithin task most from to =
    HasEdgeBetween task.graph (needed_kinds task) from to
    × (rest : List ℕ)
    × LeadsWithin (IsFreeBack task) (IsPaidBack task) most to rest from

-- none that leads to the transaction has one
abbrev pub NoneTo : Task → (most to : ℕ) → Type 0
NoneTo task most to = (from : ℕ) → ¬ HasReturnWithin task most from to

-- a walk that shows the phenomenon, and costs at most one dependency edge more than the way back
pub record ShowsWithin (task : Task) (most : ℕ) (walk : List Edge) : Type 0 where
  pub shows : Shows task.phenomenon (edges_in task.graph task.level) walk
  pub few : dependencies_in walk ≤ suc most

-- such a walk, or nothing where this holds
abbrev pub IsWithinOr : Task → (most : ℕ) → Type 0 → Option (List Edge) → Type 0
IsWithinOr task most Otherwise None = Otherwise
IsWithinOr task most Otherwise (Some walk) = ShowsWithin task most walk

-- vertices along arcs of a way back, with at most so many dependency edges, from the transaction at
-- the one place to one from which a needed edge leads to it
abbrev pub IsReturnAlong : Task → (most to : ℕ) → List ℕ → Type 0
IsReturnAlong task most to way =
    (from : ℕ)
    × HasEdgeBetween task.graph (needed_kinds task) from to
    × IsWalkWithin (IsFreeBack task) (IsPaidBack task) most to from way

-- such vertices, or nothing where no needed edge to the transaction has a way back
abbrev pub IsReturnIfAny : Task → (most to : ℕ) → Option (List ℕ) → Type 0
IsReturnIfAny task most to None = NoneTo task most to
IsReturnIfAny task most to (Some way) = IsReturnAlong task most to way

-- a number for each vertex, below which no way back falls that ends in a transaction
pub record AreLabels (task : Task) (labels : Labelling) : Type 0 where
  pub one_each : length labels.numbers ≡ vertices_in task.graph
  pub places : labels.places ≡ length task.graph.txns
  pub bounding :
      BoundsWalks (IsFreeBack task) (IsPaidBack task)
      (length task.graph.txns) labels.most labels.numbers

-- ---- arcs turned round

-- a pair has the vertex that an arc leads to, and the one that it leaves
abbrev pub IsTurnedArc : List (List ℕ) → ℕ × ℕ → Type 0
IsTurnedArc lists pair = HasArc (graph_by lists) pair.1 pair.0

-- the arcs that leave the vertex are among the pairs
abbrev pub HasArcsFrom : List (List ℕ) → (from : ℕ) → List (ℕ × ℕ) → Type 0
HasArcsFrom lists from pairs =
    (to : ℕ) → HasArc (graph_by lists) from to → Contains pairs (to, from)

-- for each vertex, exactly those that lead to it
pub record AreLeading (lists leading : List (List ℕ)) : Type 0 where
  pub count : length leading ≡ length lists
  pub exactly :
      (from to : ℕ)
      → Contains (slice_index_or leading to []) from
      ↔ HasArc (graph_by lists) from to

-- ---- the last that leads to a vertex

-- no number got less
abbrev pub AreRaised : (before after : List ℕ) → Type 0
AreRaised before after = (v : ℕ) → slice_index before v ≤ slice_index after v

-- the number of each vertex that an arc leads to from this one is as high as this
abbrev pub HaveAtLeast : List (List ℕ) → (from number : ℕ) → List ℕ → Type 0
HaveAtLeast lists from number numbers =
    (to : ℕ) → HasArc (graph_by lists) from to → number ≤ slice_index numbers to

-- a number for each vertex, that no place is above from which an arc leads to it, or a way by a
-- vertex that is no place
pub record AreLast (places : ℕ) (lists : List (List ℕ)) (last : List ℕ) : Type 0 where
  pub one_each : length last ≡ length lists
  pub direct :
      (from to : ℕ)
      → from < places
      → HasArc (graph_by lists) from to
      → from ≤ slice_index last to
  pub by_version :
      (from version to : ℕ)
      → from < places
      → ¬ (version < places)
      → HasArc (graph_by lists) from version
      → HasArc (graph_by lists) version to
      → from ≤ slice_index last to

-- ---- marks

-- each mark is the number after that of a vertex to which a needed arc leads
abbrev pub AreTrueMarks : Task → (marks : List ℕ) → Type 0
AreTrueMarks task marks =
    (from to : ℕ) → slice_index marks from ≡ suc to → IsArc task.graph (needed_kinds task) from to

-- all from which a needed arc leads to the vertex have the number after its own
abbrev pub AreMarkedFor : Task → (to : ℕ) → (marks : List ℕ) → Type 0
AreMarkedFor task to marks =
    (from : ℕ) → IsArc task.graph (needed_kinds task) from to → slice_index marks from ≡ suc to

-- a vertex that is no place has the mark
abbrev pub is_marked_version : (places : ℕ) → (marks : List ℕ) → (mark vertex : ℕ) → Bool
is_marked_version places marks mark vertex =
    nat_le places vertex && (slice_index marks vertex == mark)

-- the places that have the mark, or from which an arc leads to a vertex that is no place and has it
abbrev pub marked : (places : ℕ) → (lists : List (List ℕ)) → (marks : List ℕ) → (mark : ℕ) → VertexSet
marked places lists marks mark = record {
  count = length lists;
  has =
      λ v. nat_lt v places
      && (slice_index marks v == mark
      || list_any (is_marked_version places marks mark) (slice_index_or lists v []));
}

-- ---- what the search is given

pub record IsReadyForFewest (task : Task) (needed leading : List (List ℕ)) (last : List ℕ)
    (free paid : List (List ℕ)) : Type 0 where
  pub kept : AreOfHistory task.graph.txns
  pub by_versions : RwByVersions task.graph
  pub needed_arcs : AreArcs task.graph (needed_kinds task) needed
  pub leading_there : AreLeading needed leading
  pub last_there : AreLast (length task.graph.txns) needed last
  pub free_arcs : AreArcsThat task.graph (IsFreeBack task) free
  pub paid_arcs : AreArcsThat task.graph (IsPaidBack task) paid
