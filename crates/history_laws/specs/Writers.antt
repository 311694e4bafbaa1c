-- Who wrote a version: the words of the laws about that.
use Rattle.std.specs.Prelude.{◌≡◌, ◌↔◌, ◌⊎◌, List, flat_map, Contains, IsTrue, IsFalse}
use Rattle.hist_types.specs.Journal.{Write, writes_of, written}
use Rattle.hist_types.specs.Lists.{NoneTwice}
use Rattle.hist_types.specs.Operations.{Operation}
use Rattle.hist_types.specs.Transactions.{Transaction, Version, transactions_of, installs, writes, wrote_intermediate}

-- the writes of all the transactions
abbrev pub writes_of_all : List Transaction → List Write
writes_of_all ts = flat_map (λ (t : Transaction). writes_of t.mops) ts

-- the history's transactions write what its invocations do, in the same order
abbrev pub WriteWhatWasInvoked : List Operation → Type 0
WriteWhatWasInvoked events = writes_of_all (transactions_of events) ≡ written events

-- the history's transactions write no version twice
abbrev pub WriteNoneTwice : List Operation → Type 0
WriteNoneTwice events = NoneTwice (writes_of_all (transactions_of events))

-- no two of the history's transactions write the same version
abbrev pub HaveOneWriterEach : List Operation → Type 0
HaveOneWriterEach events =
    let ts = transactions_of events in
    (t u : Transaction) (v : Version)
    → Contains ts t
    → Contains ts u
    → IsTrue (writes t v)
    → IsTrue (writes u v)
    → t ≡ u

-- the history's transactions install no version that they write over
abbrev pub NoneBothInstalledAndIntermediate : List Operation → Type 0
NoneBothInstalledAndIntermediate events =
    (t : Transaction) (v : Version)
    → Contains (transactions_of events) t
    → IsTrue (wrote_intermediate t v)
    → IsFalse (installs t v)

-- the versions that the transaction writes are those that it installs and the intermediate ones
abbrev pub InstallsOrWroteIntermediate : Transaction → Type 0
InstallsOrWroteIntermediate t =
    (v : Version) → IsTrue (writes t v) ↔ (IsTrue (installs t v) ⊎ IsTrue (wrote_intermediate t v))

-- the transaction installs no two versions of a key
abbrev pub InstallsOneOfAKey : Transaction → Type 0
InstallsOneOfAKey t =
    (v w : Version) → IsTrue (installs t v) → IsTrue (installs t w) → v.key ≡ w.key → v ≡ w
