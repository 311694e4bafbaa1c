-- Points that are listed as the transactions are, and what is looked up of a transaction by its
-- place: who wrote what it reads, and who reads what it follows.
use Rattle.std.specs.Prelude.{◌≡◌, ℕ, List, Some, slice_index, slice_get, All, IsTrue}
use Rattle.hist_types.specs.Operations.{Operation}
use Rattle.hist_types.specs.Transactions.{Transaction, Version, transactions_of, is_known_to_read, is_node}
use Rattle.key_versions.specs.Histories.{writer_of, readers_of}
use Rattle.key_versions.specs.declared.types.Writer.{Writer}
use Rattle.dep_edges.specs.Tables.{IsPlace, txn_at}
use Rattle.clean_order.specs.AtVersions.{IsLowerIfOther}
use Rattle.clean_order.specs.ByVersion.{Follows, IsAbovePredecessors}

-- the list has the point of each transaction at its place
abbrev pub AreListed : List Transaction → (points : List ℕ) → (point : ℕ → ℕ) → Type 0
AreListed ts points point =
    (place : ℕ) (t : Transaction)
    → slice_get ts place ≡ Some t
    → point t.invocation ≡ slice_index points place

-- every list of numbers has the points of a history's transactions
abbrev pub ListPoints : List Operation → Type 0
ListPoints events =
    (points : List ℕ) → (point : ℕ → ℕ) × AreListed (transactions_of events) points point

-- who wrote the version has a lower point, if it is another transaction and a node
abbrev pub IsAboveWriter :
    List Transaction → (points : List ℕ) → (place : ℕ) → Version → Type 0
IsAboveWriter ts points place v =
    (w : Writer)
    → writer_of ts v ≡ Some w
    → IsTrue (is_node ts (txn_at ts w.txn))
    → IsLowerIfOther points w.txn place

-- each other transaction that reads the version has a lower point
abbrev pub IsAboveReaders :
    List Transaction → (points : List ℕ) → (place : ℕ) → Version → Type 0
IsAboveReaders ts points place v =
    All (λ reader. IsLowerIfOther points reader place) (readers_of ts v)

-- so it is at each version that the transaction at the place reads, or follows
pub record IsAboveByLookUps (ts : List Transaction) (points : List ℕ) (place : ℕ) : Type 0 where
  pub writers :
      (v : Version)
      → IsTrue (is_known_to_read (txn_at ts place) v)
      → IsAboveWriter ts points place v
  pub readers : (v : Version) → Follows (txn_at ts place) v → IsAboveReaders ts points place v

-- then the transaction's point is above those of its predecessors
abbrev pub LookUpsSuffice : List Operation → Type 0
LookUpsSuffice events =
    let ts = transactions_of events in
    (points : List ℕ) (point : ℕ → ℕ) (place : ℕ)
    → AreListed ts points point
    → IsPlace ts place
    → IsAboveByLookUps ts points place
    → IsAbovePredecessors ts point (txn_at ts place)
