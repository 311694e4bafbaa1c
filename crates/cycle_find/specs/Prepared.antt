-- What a search is given: the arcs that it goes over, and ranks of the vertices.
use Rattle.std.specs.Prelude.{ℕ, List, Bool}
use Rattle.dep_edges.specs.Histories.{AreOfHistory}
use Rattle.edge_graph.specs.Kinds.{kinds_of}
use Rattle.edge_graph.specs.Vertices.{AreArcs, RwByVersions}
use Rattle.edge_graph.specs.declared.types.Dependencies.TheVariants.{All}
use Rattle.hist_types.specs.declared.types.Level.TheVariants.{Plain}
use Rattle.cycle_find.specs.Ranked.{Ranking, AreRanksAtAll, AreRanksOver, AreRanksWithin}
use Rattle.cycle_find.specs.Sharing.{AreSharing}
use Rattle.cycle_find.specs.Tasks.{Site, Task, needed_kinds, back_kinds, whole_kinds}

-- ranks, none of which falls along an arc of the whole walk
abbrev pub AreCoarseRanks : Task → (coarse : List ℕ) → Type 0
AreCoarseRanks task coarse = AreRanksOver task.graph (whole_kinds task) coarse

-- ranks within those, none of which falls along an arc of the whole walk
abbrev pub AreWholeRanks : Task → (coarse ranks : List ℕ) → Type 0
AreWholeRanks task coarse ranks = AreRanksWithin task.graph (whole_kinds task) coarse ranks

-- ranks within the coarse ones, none of which falls along an arc of the way back
abbrev pub AreBackRanks : Task → (coarse finer : List ℕ) → Type 0
AreBackRanks task coarse finer = AreRanksWithin task.graph (back_kinds task) coarse finer

-- the arcs of the needed edges and of the way back, and coarse ranks with ranks within them: over
-- the whole walk, and three times over the way back
pub record IsPrepared (task : Task) (needed back : List (List ℕ))
    (coarse ranks finer far late : List ℕ) : Type 0 where
  pub kept : AreOfHistory task.graph.txns
  pub by_versions : RwByVersions task.graph
  pub needed_arcs : AreArcs task.graph (needed_kinds task) needed
  pub back_arcs : AreArcs task.graph (back_kinds task) back
  pub coarse_ranks : AreCoarseRanks task coarse
  pub whole_ranks : AreWholeRanks task coarse ranks
  pub back_ranks : AreBackRanks task coarse finer
  pub far_ranks : AreBackRanks task coarse far
  pub late_ranks : AreBackRanks task coarse late

-- the arcs of the dependency edges, coarse ranks over them, and ranks within those
pub record AreRanked (r : Ranking) (arcs : List (List ℕ)) : Type 0 where
  pub are : AreArcs r.graph (kinds_of r.dependencies Plain) arcs
  pub coarse_ranks : AreRanksOver r.graph (kinds_of r.dependencies Plain) r.coarse
  pub ranked : AreRanksWithin r.graph (kinds_of r.dependencies Plain) r.coarse r.ranks

-- coarse ranks, and what shares them
pub record IsReady (site : Site) (coarse : List ℕ) (shared : List Bool) : Type 0 where
  pub at_all : AreRanksAtAll site.graph coarse
  pub coarse_ranks : AreRanksOver site.graph (kinds_of All site.level) coarse
  pub sharing : AreSharing coarse shared
