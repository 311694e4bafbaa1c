-- Kinds of edges.
use Rattle.std.specs.Prelude.{Bool, true, false, ◌&&◌, not, IsTrue}
use Rattle.hist_types.specs.Edges.{Label, ww, wr, rw, process, realtime}
use Rattle.hist_types.specs.Phenomena.{is_rw_label}
use Rattle.hist_types.specs.declared.types.Level.{Level}
use Rattle.edge_graph.specs.declared.types.Kinds.{Kinds}
use Rattle.edge_graph.specs.declared.types.Dependencies.{Dependencies}
use Rattle.edge_graph.specs.declared.types.Dependencies.TheVariants.{None, Ww, Wr, Rw, WrAndWw, All}

-- whether an edge with this label is of the kinds; that an order edge is one of their level is said
-- elsewhere
abbrev pub includes : Kinds → Label → Bool
includes kinds (ww earlier later) = kinds.ww
includes kinds (wr version) = kinds.wr
includes kinds (rw earlier later) = kinds.rw
includes kinds (process number) = true
includes kinds (realtime completion invocation) = true

-- the same, except rw
abbrev pub includes_directly : Kinds → Label → Bool
includes_directly kinds label = includes kinds label && not (is_rw_label label)

abbrev pub has_ww : Dependencies → Bool
has_ww None = false
has_ww Ww = true
has_ww Wr = false
has_ww Rw = false
has_ww WrAndWw = true
has_ww All = true

abbrev pub has_wr : Dependencies → Bool
has_wr None = false
has_wr Ww = false
has_wr Wr = true
has_wr Rw = false
has_wr WrAndWw = true
has_wr All = true

abbrev pub has_rw : Dependencies → Bool
has_rw None = false
has_rw Ww = false
has_rw Wr = false
has_rw Rw = true
has_rw WrAndWw = false
has_rw All = true

-- these dependencies and the order of the level
abbrev pub kinds_of : Dependencies → Level → Kinds
kinds_of dependencies level = record {
  ww = has_ww dependencies;
  wr = has_wr dependencies;
  rw = has_rw dependencies;
  level = level;
}

-- the one has no dependencies that the other has not
pub record AreAmong (few more : Dependencies) : Type 0 where
  pub ww : IsTrue (has_ww few) → IsTrue (has_ww more)
  pub wr : IsTrue (has_wr few) → IsTrue (has_wr more)
  pub rw : IsTrue (has_rw few) → IsTrue (has_rw more)
