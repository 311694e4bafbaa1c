-- How the arcs of dependencies are laid out: a row for each transaction, and after them one for
-- each version.
use Rattle.std.specs.Prelude.{◌≡◌, ℕ, ◌+◌, ◌<◌, List, [], ◌++◌, length, not, ◌==◌, if◌then◌else◌, map, filter, flat_map, All}
use Rattle.hist_types.specs.Transactions.{Transaction, Version, is_node, installed_by}
use Rattle.hist_types.specs.declared.types.KeyOrder.{KeyOrder}
use Rattle.key_versions.specs.Histories.{read_by, readers_of, followers_of}
use Rattle.key_versions.specs.Tables.{Table}
use Rattle.dep_edges.specs.Histories.{History}
use Rattle.dep_edges.specs.Tables.{IsNumber, txn_at, version_at}
use Rattle.edge_graph.specs.FlatRows.{Row, row_at, IsRowBehind}
use Rattle.edge_graph.specs.declared.layout.Ends.{Ends}

-- the places of the nodes that install a version after this one
abbrev pub nodes_behind : KeyOrder → List Transaction → Version → List ℕ
nodes_behind keys ts v =
    filter (λ place. is_node ts (txn_at ts place)) (map (λ p. p.0) (followers_of keys ts v))

-- the places of the nodes that install a version after the one with this number
abbrev pub nodes_of : History → (number : ℕ) → List ℕ
nodes_of h number = nodes_behind h.table.keys h.txns (version_at h.table number)

-- the places except one
abbrev pub others : List ℕ → (place : ℕ) → List ℕ
others places place = filter (λ u. not (u == place)) places

-- the places of the other transactions that read a version which this one installs
abbrev pub readers_behind : List Transaction → ℕ → List ℕ
readers_behind ts place =
    flat_map (λ v. others (readers_of ts v) place) (installed_by (txn_at ts place))

-- the places of the nodes that install a version after one which this transaction installs
abbrev pub writers_behind : KeyOrder → List Transaction → ℕ → List ℕ
writers_behind keys ts place =
    flat_map (nodes_behind keys ts) (installed_by (txn_at ts place))

abbrev pub if_node : List Transaction → ℕ → List ℕ → List ℕ
if_node ts place places = if is_node ts (txn_at ts place) then places else []

-- these are the vertices of versions
abbrev pub AreVersionVertices : List Transaction → Table → List Version → (vertices : List ℕ)
    → Type 0
AreVersionVertices ts table vs vertices =
    (numbers : List ℕ)
    × (vertices ≡ map (λ k. length ts + k) numbers)
    × (map (version_at table) numbers ≡ vs)
    × All (IsNumber table) numbers

-- those of the versions that the transaction at the place reads, after what was there before
abbrev pub AddsReads : History → (place : ℕ) → (before after : List ℕ) → Type 0
AddsReads h place before after =
    (vertices : List ℕ)
    × (after ≡ before ++ vertices)
    × AreVersionVertices h.txns h.table (read_by (txn_at h.txns place)) vertices

-- a transaction leads to the versions that it reads, to who reads what it installs, and to who
-- installs a version after that
pub record IsTxnRow (ts : List Transaction) (table : Table) (place : ℕ) (row : Row) : Type 0 where
  pub rw : AreVersionVertices ts table (read_by (txn_at ts place)) row.rw
  pub wr : row.wr ≡ if_node ts place (readers_behind ts place)
  pub ww : row.ww ≡ if_node ts place (writers_behind table.keys ts place)

-- such a row, after what was there before
abbrev pub AddsTxnRow : History → (place : ℕ) → (before after : List ℕ) → Ends → Type 0
AddsTxnRow h place before after e =
    (row : Row) × IsTxnRow h.txns h.table place row × IsRowBehind before after e row

-- a version leads to who installs a version after it
abbrev pub version_row : KeyOrder → List Transaction → Version → Row
version_row keys ts v = record { rw = nodes_behind keys ts v; wr = []; ww = [] }

-- the rows of the transactions, and after them of the versions
pub record AreRows (ts : List Transaction) (table : Table) (rows : List Row) : Type 0 where
  pub count : length rows ≡ length ts + length table.versions
  pub txns : (place : ℕ) → place < length ts → IsTxnRow ts table place (row_at rows place)
  pub versions :
      (number : ℕ)
      → number < length table.versions
      → row_at rows (length ts + number) ≡ version_row table.keys ts (version_at table number)
