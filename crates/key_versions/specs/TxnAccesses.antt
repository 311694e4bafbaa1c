-- What a transaction reads and writes, by the numbers of versions.
use Rattle.std.specs.Prelude.{◌≡◌, ℕ, List, ◌++◌, map, length, IsTrue}
use Rattle.hist_types.specs.Journal.{writes_of}
use Rattle.hist_types.specs.Transactions.{Transaction, Version, is_ok, version_of}
use Rattle.hist_types.specs.declared.types.KeyOrder.{KeyOrder}
use Rattle.hist_types.specs.declared.types.KeyOrder.TheVariants.{Sequential}
use Rattle.key_versions.specs.declared.accessed.Accessed.{Accessed}
use Rattle.key_versions.specs.declared.pending.Access.{Access}
use Rattle.key_versions.specs.Histories.{named_by, read_by, seen_in}
use Rattle.key_versions.specs.Numbering.{with_versions, AreAccesses}
use Rattle.key_versions.specs.Steps.{AreOfSameKeys}

-- what a transaction reads, writes and sees
pub record TxnAccesses : Type 0 where
  pub reads : List Access
  pub writes : List Access
  pub seen : List Access

abbrev pub accesses_by : (rs ws ss : List Access) → TxnAccesses
accesses_by rs ws ss = record { reads = rs; writes = ws; seen = ss }

abbrev pub accesses_of : Accessed → TxnAccesses
accesses_of a = accesses_by a.reads.items a.writes.items a.seen.items

-- what a transaction reads externally, if it is ok, and what it writes
pub record AreAccessesOf (versions : List Version) (t : Transaction)
    (rs ws : List Access) : Type 0 where
  pub reads : AreAccesses versions (read_by t) rs
  pub writes : AreAccesses versions (map version_of (writes_of t.mops)) ws

-- where keys are sequential, what each micro-operation of an ok transaction reads or writes, which
-- is of the keys that it reads externally or writes
pub record AreSeenBy (keys : KeyOrder) (versions : List Version) (t : Transaction)
    (rs ws ss : List Access) : Type 0 where
  pub seen : AreAccesses versions (seen_in keys t) ss
  pub of_keys : keys ≡ Sequential → IsTrue (is_ok t) → AreOfSameKeys ss (rs ++ ws)

-- the versions with those that the transaction names, so that there are n
pub record AddsNamed (before after : List Version) (n : ℕ) (t : Transaction) : Type 0 where
  pub versions : after ≡ with_versions before (named_by t)
  pub count : n ≡ length after
