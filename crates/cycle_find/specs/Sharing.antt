-- Which vertices share their rank with another one.
use Rattle.std.specs.Prelude.{◌≡◌, ◌⊎◌, ℕ, ◌-◌, ◌<◌, min, List, length, slice_index, slice_index_or, Bool, false, IsTrue, if◌then◌else◌, [], All, Contains}
use Rattle.graph_search.specs.Graphs.{Graph}

-- where vertices of its rank are counted
abbrev pub slot : (ranks : List ℕ) → (vertex : ℕ) → ℕ
slot ranks vertex = min (slice_index ranks vertex) (length ranks - 1)

-- two vertices that are counted at one place are counted as more than one
pub record AreCounted (ranks counts : List ℕ) : Type 0 where
  pub one_each : length counts ≡ length ranks
  pub two :
      (v w : ℕ)
      → v < length ranks
      → w < length ranks
      → slot ranks v ≡ slot ranks w
      → (v ≡ w) ⊎ (1 < slice_index counts (slot ranks v))

-- two vertices of one rank share it
pub record AreSharing (ranks : List ℕ) (shared : List Bool) : Type 0 where
  pub one_each : length shared ≡ length ranks
  pub two :
      (v w : ℕ)
      → v < length ranks
      → w < length ranks
      → slice_index ranks v ≡ slice_index ranks w
      → (v ≡ w) ⊎ IsTrue (slice_index_or shared v false)

-- the vertices on the list are among those that have flags, and all are on it whose flag is true
pub record AreListed (flags : List Bool) (list : List ℕ) : Type 0 where
  pub within : All (λ v. v < length flags) list
  pub each : (v : ℕ) → IsTrue (slice_index_or flags v false) → Contains list v

-- the arcs of a graph that leave some of its vertices
abbrev pub leaving : Graph → List Bool → Graph
leaving g some =
    record {
      count = g.count;
      successors = λ v. if slice_index_or some v false then g.successors v else [];
    }
