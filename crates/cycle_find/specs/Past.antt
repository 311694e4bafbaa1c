-- Ranks that don't count the needed edges to some transactions, because no walk by these is looked
-- for any more.
use Rattle.std.specs.Prelude.{ℕ, ◌≡◌, ◌<◌, ◌≤◌, List, length, slice_index, Contains}
use Rattle.edge_graph.specs.Kinds.{kinds_of}
use Rattle.edge_graph.specs.Made.{AreWithin}
use Rattle.edge_graph.specs.Vertices.{IsArc, graph_by}
use Rattle.graph_search.specs.Graphs.{HasArc}
use Rattle.cycle_find.specs.Dependencies.{others}
use Rattle.cycle_find.specs.Tasks.{Task, needed_kinds, vertices_in}

-- a rank for each vertex, none of which falls along an arc of the whole walk, except needed arcs to
-- vertices below the cut
pub record AreRanksPast (task : Task) (cut : ℕ) (ranks : List ℕ) : Type 0 where
  pub one_each : length ranks ≡ vertices_in task.graph
  pub others :
      (v w : ℕ)
      → IsArc task.graph (kinds_of (others task.phenomenon) task.level) v w
      → slice_index ranks v ≤ slice_index ranks w
  pub needed :
      (v w : ℕ)
      → IsArc task.graph (needed_kinds task) v w
      → cut ≤ w
      → slice_index ranks v ≤ slice_index ranks w

-- the same of two lists of arcs
pub record RisePast (other_lists needed_lists : List (List ℕ)) (cut : ℕ)
    (ranks : List ℕ) : Type 0 where
  pub one_each : length ranks ≡ length needed_lists
  pub others :
      (v w : ℕ) → HasArc (graph_by other_lists) v w → slice_index ranks v ≤ slice_index ranks w
  pub needed :
      (v w : ℕ)
      → HasArc (graph_by needed_lists) v w
      → cut ≤ w
      → slice_index ranks v ≤ slice_index ranks w

-- a pair of vertices
abbrev pub IsPairWithin : (count : ℕ) → ℕ × ℕ → Type 0
IsPairWithin count pair = (pair.0 < count) × (pair.1 < count)

-- the vertex is among the pairs with each that it leads to, from the cut on
abbrev pub HasArcsPast : List (List ℕ) → (from cut : ℕ) → List (ℕ × ℕ) → Type 0
HasArcsPast lists from cut pairs =
    (to : ℕ) → HasArc (graph_by lists) from to → cut ≤ to → Contains pairs (from, to)

-- the arcs from and to vertices
abbrev pub AreArcLists : (count : ℕ) → List (List ℕ) → Type 0
AreArcLists count lists = (length lists ≡ count) × AreWithin lists
