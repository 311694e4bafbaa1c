-- Rows of numbers in one flat list.
use Rattle.std.specs.Prelude.{◌≡◌, ◌<◌, ◌≤◌, ◌+◌, ◌*◌, ℕ, Bool, true, false, List, [], ◌++◌, length, map, slice_range, slice_index_or}
use Rattle.std.specs.List.{range_with_len}
use Rattle.edge_graph.specs.declared.layout.Ends.{Ends}
use Rattle.edge_graph.specs.declared.types.Dependencies.{Dependencies}
use Rattle.edge_graph.specs.declared.types.Dependencies.TheVariants.{None, Ww, Wr, Rw, WrAndWw, All}

-- what a vertex leads to, by kind of edge
pub record Row : Type 0 where
  pub rw : List ℕ
  pub wr : List ℕ
  pub ww : List ℕ

abbrev pub no_row : Row
no_row = record { rw = []; wr = []; ww = [] }

abbrev pub row_at : List Row → ℕ → Row
row_at rows vertex = slice_index_or rows vertex no_row

-- what it leads to by these dependencies
abbrev pub led_to : Dependencies → Row → List ℕ
led_to None row = []
led_to Ww row = row.ww
led_to Wr row = row.wr
led_to Rw row = row.rw
led_to WrAndWw row = row.wr ++ row.ww
led_to All row = row.rw ++ (row.wr ++ row.ww)

-- the parts of a transaction's row by which they lead on, from the first on and before the last
abbrev pub first_part : Dependencies → ℕ
first_part None = 0
first_part Ww = 2
first_part Wr = 1
first_part Rw = 0
first_part WrAndWw = 1
first_part All = 0

abbrev pub last_part : Dependencies → ℕ
last_part None = 0
last_part Ww = 3
last_part Wr = 2
last_part Rw = 1
last_part WrAndWw = 3
last_part All = 3

-- whether they lead on from versions
abbrev pub leave_versions : Dependencies → Bool
leave_versions None = false
leave_versions Ww = false
leave_versions Wr = false
leave_versions Rw = true
leave_versions WrAndWw = false
leave_versions All = true

-- ---- in one flat list

-- from one bound to the next one
abbrev pub part_at : (bounds items : List ℕ) → ℕ → List ℕ
part_at bounds items k = slice_range items (slice_index_or bounds k 0) (slice_index_or bounds (k + 1) 0)

-- a transaction has three parts
abbrev pub txn_row_in : (bounds items : List ℕ) → (place : ℕ) → Row
txn_row_in bounds items place =
    record {
      rw = part_at bounds items (3 * place);
      wr = part_at bounds items (3 * place + 1);
      ww = part_at bounds items (3 * place + 2);
    }

-- a version has one
abbrev pub version_row_in : (bounds items : List ℕ) → (part : ℕ) → Row
version_row_in bounds items part = record { rw = part_at bounds items part; wr = []; ww = [] }

-- the rows of transactions, and after them those of versions
abbrev pub rows_in : (txns versions : ℕ) → (bounds items : List ℕ) → List Row
rows_in txns versions bounds items =
    map (txn_row_in bounds items) (range_with_len 0 txns)
    ++ map (version_row_in bounds items) (range_with_len (3 * txns) versions)

-- the bounds rise to the list's end
pub record AreBounds (bounds items : List ℕ) : Type 0 where
  pub rising :
      (k : ℕ)
      → k + 1 < length bounds
      → slice_index_or bounds k 0 ≤ slice_index_or bounds (k + 1) 0
  pub within : (k : ℕ) → k < length bounds → slice_index_or bounds k 0 ≤ length items
  pub end : (k : ℕ) → k + 1 ≡ length bounds → slice_index_or bounds k 0 ≡ length items

-- those of the parts of n transactions and m versions
pub record AreRowBounds (txns versions : ℕ) (bounds items : List ℕ) : Type 0 where
  pub count : length bounds ≡ 3 * txns + versions + 1
  pub rising : AreBounds bounds items

-- the row comes after what was there before, and its parts end where it is said
pub record IsRowBehind (before after : List ℕ) (e : Ends) (row : Row) : Type 0 where
  pub items : after ≡ ((before ++ row.rw) ++ row.wr) ++ row.ww
  pub rw : e.rw ≡ length (before ++ row.rw)
  pub wr : e.wr ≡ length ((before ++ row.rw) ++ row.wr)
  pub ww : e.ww ≡ length after
