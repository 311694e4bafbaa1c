-- Reads of what should have been seen, and stray ones.
use Rattle.std.specs.Prelude.{◌≡◌, ◌⊎◌, List, None, Contains, IsTrue, IsFalse}
use Rattle.hist_types.specs.Operations.{Operation}
use Rattle.hist_types.specs.Phenomena.{g1a, g1b}
use Rattle.hist_types.specs.Transactions.{Transaction, Version, transactions_of, is_failed, installs, is_known_to_read, writes}
use Rattle.history_laws.specs.BadReads.{NobodyWrote}

-- some transaction installs the version, and it didn't fail
abbrev pub IsInstalled : List Transaction → Version → Type 0
IsInstalled ts v =
    (writer : Transaction)
    × Contains ts writer
    × IsFalse (is_failed writer)
    × IsTrue (installs writer v)

-- the version that a transaction reads is nil, or so installed, or was written by nobody, or by the
-- transaction itself
abbrev pub IsCleanRead : List Transaction → (reader : Transaction) → Version → Type 0
IsCleanRead ts reader v =
    (v.value ≡ None) ⊎ IsInstalled ts v ⊎ NobodyWrote ts v ⊎ IsTrue (writes reader v)

-- so it is of each version that an ok transaction reads
abbrev pub ReadsAreClean : List Transaction → Type 0
ReadsAreClean ts =
    (reader : Transaction) (v : Version)
    → Contains ts reader
    → IsTrue (is_known_to_read reader v)
    → IsCleanRead ts reader v

-- then no read shows a phenomenon
pub record HasNoBadRead (ts : List Transaction) : Type 0 where
  pub aborted : g1a ts ≡ None
  pub intermediate : g1b ts ≡ None

abbrev pub CleanReadsSuffice : List Operation → Type 0
CleanReadsSuffice events =
    ReadsAreClean (transactions_of events) → HasNoBadRead (transactions_of events)
