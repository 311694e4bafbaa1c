-- What is looked at of a schedule: at each version who wrote it, those that read it and those that
-- install one after it, and of each transaction its start, its commit and the clock.
use Rattle.std.specs.Prelude.{◌≡◌, ◌<◌, ◌≤◌, ℕ, List, ◌∷◌, slice_index, slice_get, Bool, if◌then◌else◌, [], Option, Some, None, All, IsTrue}
use Rattle.hist_types.specs.Transactions.{Transaction, Version, is_ok, is_node}
use Rattle.key_versions.specs.Histories.{writer_of, readers_of, followers_of}
use Rattle.key_versions.specs.declared.types.Writer.{Writer}
use Rattle.dep_edges.specs.Histories.{History}
use Rattle.dep_edges.specs.Tables.{txn_at}
use Rattle.schedules.specs.declared.types.EdgeKinds.{EdgeKinds}

-- the transaction at the one place has a lower number in the one list than the other one in the other
abbrev pub IsBefore : (numbers others : List ℕ) → (place other : ℕ) → Type 0
IsBefore numbers others place other = slice_index numbers place < slice_index others other

-- unless they are one transaction
abbrev pub IsBeforeIfOther : (numbers others : List ℕ) → (place other : ℕ) → Type 0
IsBeforeIfOther numbers others place other =
    ¬ (place ≡ other) → IsBefore numbers others place other

-- where both lists are one
abbrev pub IsLowerIfOther : (numbers : List ℕ) → (place other : ℕ) → Type 0
IsLowerIfOther numbers place other = IsBeforeIfOther numbers numbers place other

-- no transaction commits before it starts
abbrev pub StartFirst : (starts commits : List ℕ) → Type 0
StartFirst starts commits = (place : ℕ) → slice_index starts place ≤ slice_index commits place

-- ---- versions

-- who wrote a version, if somebody did
abbrev pub writers : Option Writer → List ℕ
writers None = []
writers (Some w) = w.txn ∷ []

-- these transactions, where they count
abbrev pub counted : (count : Bool) → (places : List ℕ) → List ℕ
counted count places = if count then places else []

-- each of these is before the other one
abbrev pub AreBefore : (numbers others places : List ℕ) → (place : ℕ) → Type 0
AreBefore numbers others places place = All (λ user. IsBeforeIfOther numbers others user place) places

-- if that is a node
abbrev pub AreBeforeNode :
    (ts : List Transaction) → (numbers others places : List ℕ) → (place : ℕ) → Type 0
AreBeforeNode ts numbers others places place =
    IsTrue (is_node ts (txn_at ts place)) → AreBefore numbers others places place

-- Who wrote the version commits before the nodes start that install a version after it and, if wr
-- edges count, before those start that read it. If rw edges count, these start before those nodes
-- commit.
pub record KeepsAt (h : History) (kinds : EdgeKinds) (starts commits : List ℕ) (v : Version) :
    Type 0 where
  pub readers :
      All (AreBefore commits starts (writers (writer_of h.txns v)))
      (counted kinds.wr (readers_of h.txns v))
  pub from_writer :
      All
      (λ (p : ℕ × Version).
      AreBeforeNode h.txns commits starts (writers (writer_of h.txns v)) p.0)
      (followers_of h.table.keys h.txns v)
  pub from_readers :
      All
      (λ (p : ℕ × Version).
      AreBeforeNode h.txns starts commits (counted kinds.rw (readers_of h.txns v)) p.0)
      (followers_of h.table.keys h.txns v)

-- ---- time

-- an ok transaction's place is listed at the index of its completion
abbrev pub IsListed : (ends : List ℕ) → Transaction → (place : ℕ) → Type 0
IsListed ends t place =
    IsTrue (is_ok t) → (index : ℕ) → t.completion ≡ Some index → slice_get ends index ≡ Some place
