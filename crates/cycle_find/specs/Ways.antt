-- From a transaction to another one along arcs: by one arc, or by two with a version between them.
use Rattle.std.specs.Prelude.{◌≡◌, ◌<◌, ◌⊎◌, ℕ, slice_index}
use Rattle.dep_edges.specs.Tables.{IsPlace}
use Rattle.edge_graph.specs.Kinds.{kinds_of}
use Rattle.edge_graph.specs.Parts.{Parts}
use Rattle.edge_graph.specs.Vertices.{IsArc}
use Rattle.edge_graph.specs.declared.types.Kinds.{Kinds}
use Rattle.hist_types.specs.declared.types.Level.TheVariants.{Plain}
use Rattle.cycle_find.specs.Ranked.{Ranking}

-- an arc to the vertex leads to the transaction: it is that one, or a version that leads on to it,
-- and it isn't the first one
abbrev pub LeadsOn : Parts → Kinds → (from by to : ℕ) → Type 0
LeadsOn g kinds from by to = (by ≡ to) ⊎ (¬ IsPlace g.txns by × ¬ (from ≡ to) × IsArc g kinds by to)

-- ---- ways along which a rank rises

-- one of the two ranks of the vertex is higher than that of the other one
abbrev pub IsAbove : Ranking → (from vertex : ℕ) → Type 0
IsAbove r from vertex =
    (slice_index r.coarse from < slice_index r.coarse vertex)
    ⊎ (slice_index r.ranks from < slice_index r.ranks vertex)

-- from the one transaction by the vertex to any other one of the same coarse rank the finer one
-- rises
abbrev pub RisesBy : Ranking → (from by : ℕ) → Type 0
RisesBy r from by =
    (to : ℕ)
    → IsPlace r.graph.txns to
    → LeadsOn r.graph (kinds_of r.dependencies Plain) from by to
    → slice_index r.coarse from ≡ slice_index r.coarse to
    → slice_index r.ranks from < slice_index r.ranks to

-- from the transaction
abbrev pub RisesFrom : Ranking → (from : ℕ) → Type 0
RisesFrom r from =
    (by : ℕ) → IsArc r.graph (kinds_of r.dependencies Plain) from by → RisesBy r from by

-- everywhere
abbrev pub Rises : Ranking → Type 0
Rises r = (from : ℕ) → IsPlace r.graph.txns from → RisesFrom r from
