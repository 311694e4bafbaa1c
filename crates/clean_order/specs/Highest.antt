-- The highest number of some transactions, and the highest of the others.
use Rattle.std.specs.Prelude.{◌≡◌, ◌<◌, ◌≤◌, ℕ, List, slice_index, All, IsTrue}
use Rattle.hist_types.specs.Transactions.{Transaction, is_node}
use Rattle.dep_edges.specs.Tables.{txn_at}
use Rattle.clean_order.specs.declared.keeping.Highest.{Highest}

-- a transaction with this number is among them
pub record IsCounted (highest : Highest) (place number : ℕ) : Type 0 where
  pub first : number ≤ highest.first
  pub second : ¬ (place ≡ highest.place) → number ≤ highest.second

-- all of these transactions are
abbrev pub AreCounted : Highest → (numbers places : List ℕ) → Type 0
AreCounted highest numbers places =
    All (λ place. IsCounted highest place (slice_index numbers place)) places

-- each other transaction among them has a lower number than the one at the place
abbrev pub IsHigher : (numbers : List ℕ) → Highest → (place : ℕ) → Type 0
IsHigher numbers highest place =
    (other number : ℕ)
    → IsCounted highest other number
    → ¬ (other ≡ place)
    → number < slice_index numbers place

-- if that is a node
abbrev pub IsAbove : List Transaction → (numbers : List ℕ) → Highest → (place : ℕ) → Type 0
IsAbove ts numbers highest place =
    IsTrue (is_node ts (txn_at ts place)) → IsHigher numbers highest place
