-- Ranks of a graph's vertices, and the vertices that a search may enter.
use Rattle.std.specs.Prelude.{◌≡◌, ℕ, ◌+◌, ◌≤◌, List, length, slice_index, ◌&&◌, nat_le}
use Rattle.graph_search.specs.Graphs.{VertexSet}
use Rattle.edge_graph.specs.Kinds.{kinds_of}
use Rattle.edge_graph.specs.Parts.{Parts}
use Rattle.edge_graph.specs.Vertices.{IsArc}
use Rattle.edge_graph.specs.declared.types.Dependencies.{Dependencies}
use Rattle.edge_graph.specs.declared.types.Dependencies.TheVariants.{All}
use Rattle.edge_graph.specs.declared.types.Kinds.{Kinds}
use Rattle.hist_types.specs.declared.types.Level.TheVariants.{Process, Realtime}

-- a rank for each vertex, none of which falls along an arc of the kinds
pub record AreRanksOver (g : Parts) (kinds : Kinds) (ranks : List ℕ) : Type 0 where
  pub one_each : length ranks ≡ length g.txns + length g.versions
  pub rising : (v w : ℕ) → IsArc g kinds v w → slice_index ranks v ≤ slice_index ranks w

-- they fall along no arc at any level
pub record AreRanksAtAll (g : Parts) (ranks : List ℕ) : Type 0 where
  pub process : AreRanksOver g (kinds_of All Process) ranks
  pub realtime : AreRanksOver g (kinds_of All Realtime) ranks

-- no ranks that don't fall along any arc of the kinds fall from the one vertex to the other
abbrev pub NeverFalls : Parts → Kinds → (from to : ℕ) → Type 0
NeverFalls g kinds from to =
    (ranks : List ℕ) → AreRanksOver g kinds ranks → slice_index ranks from ≤ slice_index ranks to

-- a rank for each vertex, none of which falls along an arc of the kinds between two vertices of one
-- coarse rank
pub record AreRanksWithin (g : Parts) (kinds : Kinds) (coarse ranks : List ℕ) : Type 0 where
  pub one_each : length ranks ≡ length g.txns + length g.versions
  pub rising :
      (v w : ℕ)
      → IsArc g kinds v w
      → slice_index coarse v ≡ slice_index coarse w
      → slice_index ranks v ≤ slice_index ranks w

-- some dependencies of a graph, and two ranks of each vertex, of which the second one is finer
pub record Ranking : Type 0 where
  pub graph : Parts
  pub dependencies : Dependencies
  pub coarse : List ℕ
  pub ranks : List ℕ

abbrev pub ranking_of : Parts → Dependencies → (coarse ranks : List ℕ) → Ranking
ranking_of graph dependencies coarse ranks =
    record { graph = graph; dependencies = dependencies; coarse = coarse; ranks = ranks }

-- the vertices that none of five rankings has above a certain one
abbrev pub not_above : (coarse ranks back far late : List ℕ) (to : ℕ) → VertexSet
not_above coarse ranks back far late to = record {
  count = length coarse;
  has =
      λ v. nat_le (slice_index late v) (slice_index late to)
      && nat_le (slice_index back v) (slice_index back to)
      && nat_le (slice_index far v) (slice_index far to)
      && nat_le (slice_index ranks v) (slice_index ranks to)
      && nat_le (slice_index coarse v) (slice_index coarse to);
}
