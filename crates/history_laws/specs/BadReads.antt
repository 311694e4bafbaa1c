-- Reads of versions that should not have been seen, by who wrote the version: the words of the laws
-- about them.
use Rattle.std.specs.Prelude.{◌≡◌, List, [], ◌∷◌, ◌==◌, IsFalse, All, Contains, None, Bool, not, ◌&&◌, IsTrue, if◌then◌else◌}
use Rattle.hist_types.specs.Operations.{Operation}
use Rattle.hist_types.specs.Transactions.{Transaction, Version, transactions_of, is_failed, is_known_to_read, writes, wrote_intermediate}
use Rattle.hist_types.specs.Phenomena.{BadRead, bad_read, aborted_writers, intermediate_writers}

-- a transaction reads the version, and one that failed wrote it
abbrev pub IsAbortedRead : List Transaction → BadRead → Type 0
IsAbortedRead ts r =
    (reader : Transaction)
    × (writer : Transaction)
    × Contains ts reader
    × Contains ts writer
    × (r ≡ bad_read reader r.version writer)
    × IsTrue (is_known_to_read reader r.version)
    × IsTrue (is_failed writer)
    × IsTrue (writes writer r.version)

-- a transaction reads the version, and another one wrote it over
abbrev pub IsIntermediateRead : List Transaction → BadRead → Type 0
IsIntermediateRead ts r =
    (reader : Transaction)
    × (writer : Transaction)
    × Contains ts reader
    × Contains ts writer
    × (r ≡ bad_read reader r.version writer)
    × IsTrue (is_known_to_read reader r.version)
    × ¬ (writer.invocation ≡ reader.invocation)
    × IsTrue (wrote_intermediate writer r.version)

-- one of the transactions wrote the version
abbrev pub SomeoneWrote : List Transaction → Version → Type 0
SomeoneWrote ts v = (writer : Transaction) × Contains ts writer × IsTrue (writes writer v)

-- none of the transactions wrote the version
abbrev pub NobodyWrote : List Transaction → Version → Type 0
NobodyWrote ts v = All (λ writer. IsFalse (writes writer v)) ts

-- a transaction reads the version, which isn't nil and which nobody wrote
abbrev pub IsStrayRead : List Transaction → Version → Type 0
IsStrayRead ts v =
    ((reader : Transaction) × Contains ts reader × IsTrue (is_known_to_read reader v))
    × ¬ (v.value ≡ None)
    × NobodyWrote ts v

-- the transaction, if the test holds, and no other one
abbrev pub single_if : Bool → Transaction → List Transaction
single_if test t = if test then t ∷ [] else []

-- whether the writer is another transaction than the reader, and wrote the version over
abbrev pub is_intermediate_for : (reader writer : Transaction) → Version → Bool
is_intermediate_for reader writer v =
    not (writer.invocation == reader.invocation) && wrote_intermediate writer v

-- a transaction of the history that wrote a version is its one aborted writer, if it failed
abbrev pub WriterDecidesG1a : List Operation → Type 0
WriterDecidesG1a events =
    let ts = transactions_of events in
    (writer : Transaction) (v : Version)
    → Contains ts writer
    → IsTrue (writes writer v)
    → aborted_writers ts v ≡ single_if (is_failed writer) writer

-- it is its one intermediate writer for another transaction, if it wrote the version over
abbrev pub WriterDecidesG1b : List Operation → Type 0
WriterDecidesG1b events =
    let ts = transactions_of events in
    (reader writer : Transaction) (v : Version)
    → Contains ts writer
    → IsTrue (writes writer v)
    → intermediate_writers ts reader v ≡ single_if (is_intermediate_for reader writer v) writer

-- for no reader of the version one of the transactions is an intermediate writer of it
abbrev pub HasNoIntermediateWriter : List Transaction → Version → Type 0
HasNoIntermediateWriter ts v = (reader : Transaction) → intermediate_writers ts reader v ≡ []
