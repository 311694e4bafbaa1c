-- What the transactions of a run read and write, kept by number while the run goes on.
--
-- A transaction is added when it is invoked, and updated when it completes. A completion names all
-- that its invocation named, and, if it is ok, what it reads too. So the versions that a history
-- names only grow, and each keeps its number.
use Rattle.std.specs.Prelude.{◌≡◌, ℕ, List, [], ◌∷◌, slice_get, Some, ⊤}
use Rattle.atom_index.specs.Numbers.{AreNumbered}
use Rattle.hist_types.specs.Transactions.{Transaction, Version, version_eq, has_version}
use Rattle.hist_types.specs.declared.types.KeyOrder.{KeyOrder}
use Rattle.key_versions.specs.Histories.{is_named}
use Rattle.key_versions.specs.TxnAccesses.{TxnAccesses, AreAccessesOf, AreSeenBy}

pub record KeptVersions : Type 0 where
  -- how the versions of each key are ordered
  pub keys : KeyOrder
  -- by number of version
  pub versions : List Version
  -- by place of transaction
  pub accesses : List TxnAccesses

-- each transaction has these accesses
abbrev pub HaveAccesses : KeyOrder → List Version → List Transaction → List TxnAccesses → Type 0
HaveAccesses keys versions [] [] = ⊤
HaveAccesses keys versions (t ∷ ts) (a ∷ accesses) =
    AreAccessesOf versions t a.reads a.writes
    × AreSeenBy keys versions t a.reads a.writes a.seen
    × HaveAccesses keys versions ts accesses
HaveAccesses keys versions ts accesses = ⊥

-- The versions are those that the transactions name, no two of them equal, and of each transaction
-- its accesses are kept.
pub record AreKept (ts : List Transaction) (kept : KeptVersions) : Type 0 where
  pub distinct : AreNumbered version_eq kept.versions
  pub named : (v : Version) → has_version kept.versions v ≡ is_named ts v
  pub accesses : HaveAccesses kept.keys kept.versions ts kept.accesses

-- the accesses of each transaction but the one at the place were there before
abbrev pub StayBeside : (place : ℕ) → (before after : List TxnAccesses) → Type 0
StayBeside place before after =
    (other : ℕ) (a : TxnAccesses)
    → ¬ (other ≡ place)
    → slice_get after other ≡ Some a
    → slice_get before other ≡ Some a

-- each version keeps its number
abbrev pub KeepNumbers : (before after : List Version) → Type 0
KeepNumbers before after =
    (number : ℕ) (v : Version)
    → slice_get before number ≡ Some v
    → slice_get after number ≡ Some v
