-- The edges that leave a transaction, as a history finds them: transactions by their place,
-- versions by their number.
use Rattle.std.specs.Prelude.{◌≡◌, ℕ, List, ◌++◌, flat_map, Vec}
use Rattle.hist_types.specs.Edges.{ww, Edge}
use Rattle.hist_types.specs.Transactions.{installed_by}
use Rattle.key_versions.specs.Histories.{read_by}
use Rattle.dep_edges.specs.Histories.{History}
use Rattle.dep_edges.specs.Labels.{label_of}
use Rattle.dep_edges.specs.OutEdges.{node_edge, reader_edges, later_edges, written_edges, read_edges, each_once, leaving}
use Rattle.dep_edges.specs.Tables.{txn_at, version_at}
use Rattle.dep_edges.specs.declared.edge.Label.{Label}

-- the Vec has these items after those that it had before
abbrev pub Gains : {X A : Type 0} → (before after : Vec X A) → List X → Type 0
Gains before after items = after.items ≡ before.items ++ items

-- the edge from a transaction to the one at the place, if that is another node
abbrev pub edge_at : History → (from place : ℕ) → Label → List Edge
edge_at h from place label = node_edge h.txns from (txn_at h.txns place) (label_of label)

-- ---- out of one version

-- out of a version that the transaction `from` installs, to those that read it
abbrev pub wr_edges : History → (from number : ℕ) → List Edge
wr_edges h from number = reader_edges h.txns from (version_at h.table number)

-- the same, to those that install a version after it
abbrev pub ww_edges : History → (from number : ℕ) → List Edge
ww_edges h from number =
    later_edges h.table.keys h.txns from (ww (version_at h.table number))
    (version_at h.table number)

-- out of a version that the transaction `from` reads, to those that install a version after it
abbrev pub rw_edges : History → (from number : ℕ) → List Edge
rw_edges h from number = read_edges h.table.keys h.txns from (version_at h.table number)

-- ---- out of the transaction at a place

-- by the versions that it installs
abbrev pub edges_of_installs : History → (from place : ℕ) → List Edge
edges_of_installs h from place =
    flat_map (written_edges h.table.keys h.txns from) (installed_by (txn_at h.txns place))

-- by those that it reads, each once
abbrev pub edges_of_reads : History → (from place : ℕ) → List Edge
edges_of_reads h from place =
    flat_map (read_edges h.table.keys h.txns from) (each_once (read_by (txn_at h.txns place)))

-- by both; none where it is no node
abbrev pub edges_at : History → (place : ℕ) → List Edge
edges_at h place = leaving h.table.keys h.txns (txn_at h.txns place)
