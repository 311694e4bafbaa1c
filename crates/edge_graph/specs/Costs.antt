-- What a walk over arcs costs: one for each of its arcs of dependencies that leaves a transaction.
--
-- So a ww or wr edge costs one, and so does an rw edge, which goes by way of a version. Order edges
-- cost nothing.
use Rattle.std.specs.Prelude.{◌⊎◌, ◌≤◌, ℕ, List}
use Rattle.graph_search.specs.Costs.{IsWalkWithin}
use Rattle.hist_types.specs.Edges.{Edge}
use Rattle.hist_types.specs.Witness.{dependencies_in}
use Rattle.hist_types.specs.declared.types.Level.{Level}
use Rattle.hist_types.specs.declared.types.Level.TheVariants.{Plain}
use Rattle.dep_edges.specs.Tables.{IsPlace}
use Rattle.edge_graph.specs.Kinds.{kinds_of}
use Rattle.edge_graph.specs.Parts.{Parts}
use Rattle.edge_graph.specs.Vertices.{IsArc}
use Rattle.edge_graph.specs.declared.types.Dependencies.{Dependencies}
use Rattle.edge_graph.specs.declared.types.Dependencies.TheVariants.{None}

-- arcs that cost nothing: those of the order, and those that leave versions
abbrev pub IsFreeArc : Parts → Dependencies → Level → ℕ → ℕ → Type 0
IsFreeArc g d level v w =
    IsArc g (kinds_of None level) v w ⊎ ((¬ IsPlace g.txns v) × IsArc g (kinds_of d Plain) v w)

-- arcs that cost one: those of dependencies that leave transactions
abbrev pub IsPaidArc : Parts → Dependencies → ℕ → ℕ → Type 0
IsPaidArc g d v w = IsPlace g.txns v × IsArc g (kinds_of d Plain) v w

-- a walk over arcs that costs at most so much
abbrev pub CostsAtMost : Parts → Dependencies → Level → (most : ℕ) → (walk : List ℕ) → Type 0
CostsAtMost g d level most walk =
    (from to : ℕ) × IsWalkWithin (IsFreeArc g d level) (IsPaidArc g d) most from to walk

-- no more of the edges are dependencies than the walk costs
abbrev pub AreAsCheap : Parts → Dependencies → Level → (walk : List ℕ) → List Edge → Type 0
AreAsCheap g d level walk es =
    (most : ℕ) → CostsAtMost g d level most walk → dependencies_in es ≤ most
