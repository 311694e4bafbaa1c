-- Reads of values that should not have been seen: G1a, G1b and stray reads, and the text of `reads`.
use Rattle.std.proofs.Common.{◌≡◌, List, [], ◌∷◌, ◌++◌, Some, None, codes, map, refl}
use Rattle.std.specs.Fmt.{digits}
use Rattle.hist_types.specs.Operations.{Operation}
use Rattle.hist_types.specs.Journal.{first_broken}
use Rattle.hist_types.specs.Transactions.{transactions_of, nodes, external_reads, intermediate_writes}
use Rattle.hist_types.specs.Versions.{version_pairs}
use Rattle.hist_types.specs.Edges.{Edge, dependency_edges}
use Rattle.hist_types.specs.Phenomena.{g1a, g1b, stray}
use Rattle.hist_types.specs.Reports.{reads_report}
use Rattle.hist_types.specs.Texts.{reads_text}
use Rattle.hist_types.specs.declared.types.Level.TheVariants.{Process}
use Rattle.hist_types.specs.declared.types.KeyOrder.TheVariants.{Basic}
use Rattle.hist_types.proofs.Rows.History.{x, y, number, sets, gets, finds_nil, invoke, ok, fail, info, committed, aborted, unfinished, nil_then, pair, wr_edge, rw_nil_edge, process_edge, names, version, HasAccount, AreWitnesses, witnesses, ArePrinted, IsLegal}

-- ---- a value of a transaction that failed

-- A write fails, and its value is read.
abbrev aborted_read : List Operation
aborted_read =
    invoke 0 (sets x 1 ∷ [])
    ∷ fail 0
    ∷ invoke 1 (finds_nil x ∷ [])
    ∷ ok 1 (gets x 1 ∷ [])
    ∷ []

-- It keeps the rules of the journal, and is what the journal then holds.
aborted_read-account : HasAccount aborted_read (record {
  -- A failed transaction keeps what its invocation wrote.
  transactions = aborted 0 0 1 (sets x 1 ∷ []) ∷ committed 1 2 3 (gets x 1 ∷ []) ∷ [];
  -- A failed transaction is no node, also where its value was read.
  nodes = 2 ∷ [];
  -- Its write is no version.
  pairs = [];
  -- So the read makes no edge.
  edges = [];
})
aborted_read-account = ((refl, refl), refl)

-- The read is a G1a, told with its reader and its writer.
aborted_read-g1a : g1a (transactions_of aborted_read) ≡ Some (record { reader = 2; version = version x 1; writer = 0 })
aborted_read-g1a = refl

-- Nothing was written over, so it is no G1b.
aborted_read-g1b : g1b (transactions_of aborted_read) ≡ None
aborted_read-g1b = refl

-- Somebody wrote the value, so it is no stray read.
aborted_read-stray : stray (transactions_of aborted_read) ≡ 0
aborted_read-stray = refl

-- It is printed so.
aborted_read-text : reads_text (reads_report aborted_read) ≡ codes "prefix 4\ntxns 2\nG1a yes\n  T2 read :x 1 of T0\nG1b none\nstray 0\n"
unfolding digits
aborted_read-text = refl

-- ---- a value that was written over

-- A transaction writes a key twice, and its first value is read.
abbrev intermediate_read : List Operation
intermediate_read =
    invoke 0 (sets x 1 ∷ sets x 2 ∷ [])
    ∷ ok 0 (sets x 1 ∷ sets x 2 ∷ [])
    ∷ invoke 1 (finds_nil x ∷ [])
    ∷ ok 1 (gets x 1 ∷ [])
    ∷ []

-- It keeps the rules of the journal, and is what the journal then holds.
intermediate_read-account : HasAccount intermediate_read (record {
  -- Both transactions are ok.
  transactions = committed 0 0 1 (sets x 1 ∷ sets x 2 ∷ []) ∷ committed 1 2 3 (gets x 1 ∷ []) ∷ [];
  -- Both are nodes.
  nodes = 0 ∷ 2 ∷ [];
  -- Only the last write of a key is a version.
  pairs = nil_then x 2 ∷ [];
  -- Nobody wrote 1 externally, so its read makes no edge, and neither does the read follow nil.
  edges = [];
})
intermediate_read-account = ((refl, refl), refl)

-- The read is a G1b, told with its reader and its writer.
intermediate_read-g1b : g1b (transactions_of intermediate_read) ≡ Some (record { reader = 2; version = version x 1; writer = 0 })
intermediate_read-g1b = refl

-- No writer failed, so it is no G1a.
intermediate_read-g1a : g1a (transactions_of intermediate_read) ≡ None
intermediate_read-g1a = refl

-- The value that was written over, and the one that stands.
intermediate_read-writes : map intermediate_writes (transactions_of intermediate_read) ≡ (record { key = x; value = number 1 } ∷ []) ∷ [] ∷ []
intermediate_read-writes = refl

-- It is printed so.
intermediate_read-text : reads_text (reads_report intermediate_read) ≡ codes "prefix 4\ntxns 2\nG1a none\nG1b yes\n  T2 read :x 1 of T0\nstray 0\n"
unfolding digits
intermediate_read-text = refl

-- ---- a value that nobody wrote

-- 7 is read, and nobody wrote it.
abbrev stray_read : List Operation
stray_read =
    invoke 0 (finds_nil x ∷ [])
    ∷ ok 0 (gets x 7 ∷ [])
    ∷ []

-- It keeps the rules of the journal, and is what the journal then holds.
stray_read-account : HasAccount stray_read (record {
  -- There is one transaction.
  transactions = committed 0 0 1 (gets x 7 ∷ []) ∷ [];
  -- It is a node.
  nodes = 0 ∷ [];
  -- There is no write.
  pairs = [];
  -- There is no edge.
  edges = [];
})
stray_read-account = ((refl, refl), refl)

-- One read is stray, and that is no phenomenon.
stray_read-found : (stray (transactions_of stray_read) ≡ 1) × (g1a (transactions_of stray_read) ≡ None) × (g1b (transactions_of stray_read) ≡ None)
stray_read-found = (refl, refl, refl)

-- It is printed so.
stray_read-text : reads_text (reads_report stray_read) ≡ codes "prefix 2\ntxns 1\nG1a none\nG1b none\nstray 1\n"
unfolding digits
stray_read-text = refl

-- ---- no events

-- Of no events the text says that there is nothing.
no_events-text : reads_text (reads_report []) ≡ codes "prefix 0\ntxns 0\nG1a none\nG1b none\nstray 0\n"
unfolding digits
no_events-text = refl

-- ---- an open writer that fails later

-- A value of a transaction that is still open is read, and missed by the next read.
abbrev open_writer : List Operation
open_writer =
    invoke 0 (sets x 1 ∷ [])
    ∷ invoke 1 (finds_nil x ∷ [])
    ∷ ok 1 (gets x 1 ∷ [])
    ∷ invoke 1 (finds_nil x ∷ [])
    ∷ ok 1 (finds_nil x ∷ [])
    ∷ []

-- It keeps the rules of the journal, and is what the journal then holds.
open_writer-account : HasAccount open_writer (record {
  -- The writer has no completion.
  transactions =
      unfinished 0 0 (sets x 1 ∷ [])
      ∷ committed 1 1 2 (gets x 1 ∷ [])
      ∷ committed 1 3 4 (finds_nil x ∷ [])
      ∷ [];
  -- The open writer is a node, since its value was read.
  nodes = 0 ∷ 1 ∷ 3 ∷ [];
  -- nil comes before its write.
  pairs = nil_then x 1 ∷ [];
  -- One read saw the write, the other one missed it.
  edges = wr_edge 0 1 x 1 ∷ rw_nil_edge 3 0 x 1 ∷ [];
})
open_writer-account = ((refl, refl), refl)

-- from the write to its reader, on to the next read, and back
abbrev open_writer_walk : List Edge
open_writer_walk = wr_edge 0 1 x 1 ∷ process_edge 1 3 1 ∷ rw_nil_edge 3 0 x 1 ∷ []

-- There is a cycle while the writer is open.
open_writer-witness : AreWitnesses Process open_writer open_writer_walk
open_writer-witness = witnesses Process open_writer (0 ∷ 2 ∷ 1 ∷ []) open_writer_walk (refl, (refl, refl)) (refl, refl, (refl, refl, (refl, refl, tt))) refl refl refl refl refl

-- It is printed so, and as a G2-item alike.
open_writer-witness-lines : ArePrinted Process open_writer_walk (codes "process\n  T0 -wr :x 1-> T1\n  T1 -process 1-> T3\n  T3 -rw :x nil 1-> T0\n")
unfolding digits
open_writer-witness-lines = (refl, refl)

-- An open writer has not failed.
open_writer-g1a : g1a (transactions_of open_writer) ≡ None
open_writer-g1a = refl

-- Then it fails.
abbrev failed_writer : List Operation
failed_writer = open_writer ++ fail 0 ∷ []

-- That keeps the rules.
failed_writer-legal : first_broken [] failed_writer ≡ None
failed_writer-legal = refl

-- The failed writer is no node any more, and all its edges are gone.
failed_writer-edges : (names (nodes (transactions_of failed_writer)) ≡ 1 ∷ 3 ∷ []) × (dependency_edges Basic (transactions_of failed_writer) ≡ [])
failed_writer-edges = (refl, refl)

-- In their place the read is a G1a.
failed_writer-g1a : g1a (transactions_of failed_writer) ≡ Some (record { reader = 1; version = version x 1; writer = 0 })
failed_writer-g1a = refl

-- ---- which reads and which writers count

-- A transaction reads what it writes, and writes over, only afterwards.
abbrev own_intermediate : List Operation
own_intermediate =
    invoke 0 (finds_nil x ∷ sets x 1 ∷ sets x 2 ∷ [])
    ∷ ok 0 (gets x 1 ∷ sets x 1 ∷ sets x 2 ∷ [])
    ∷ []

-- It keeps the rules of the journal, and is what the journal then holds.
own_intermediate-legal : IsLegal own_intermediate
own_intermediate-legal = (refl, refl)

-- nil comes before its write, and so does the 1 that it read.
own_intermediate-pairs : version_pairs Basic (transactions_of own_intermediate) ≡ nil_then x 2 ∷ pair x 1 2 ∷ []
own_intermediate-pairs = refl

-- There is no edge, since it would lead from a transaction to itself.
own_intermediate-edges : dependency_edges Basic (transactions_of own_intermediate) ≡ []
own_intermediate-edges = refl

-- One's own later write, read first, is no stray read and no G1b, which asks for another transaction.
own_intermediate-found : (stray (transactions_of own_intermediate) ≡ 0) × (g1b (transactions_of own_intermediate) ≡ None)
own_intermediate-found = (refl, refl)

-- A transaction reads the very value that it writes afterwards.
abbrev own_later_write : List Operation
own_later_write =
    invoke 0 (finds_nil x ∷ sets x 1 ∷ [])
    ∷ ok 0 (gets x 1 ∷ sets x 1 ∷ [])
    ∷ []

-- It keeps the rules of the journal, and is what the journal then holds.
own_later_write-legal : IsLegal own_later_write
own_later_write-legal = (refl, refl)

-- A value does not come before itself, so only nil comes before it.
own_later_write-pairs : version_pairs Basic (transactions_of own_later_write) ≡ nil_then x 1 ∷ []
own_later_write-pairs = refl

-- Nothing joins a transaction to itself.
own_later_write-edges : dependency_edges Basic (transactions_of own_later_write) ≡ []
own_later_write-edges = refl

-- It is no stray read.
own_later_write-stray : stray (transactions_of own_later_write) ≡ 0
own_later_write-stray = refl

-- A transaction writes a key and then reads a failed value there.
abbrev internal_read : List Operation
internal_read =
    invoke 0 (sets x 1 ∷ [])
    ∷ fail 0
    ∷ invoke 1 (sets x 2 ∷ finds_nil x ∷ [])
    ∷ ok 1 (sets x 2 ∷ gets x 1 ∷ [])
    ∷ []

-- It keeps the rules of the journal, and is what the journal then holds.
internal_read-legal : IsLegal internal_read
internal_read-legal = (refl, refl)

-- A read behind a write of its key is not external, and is looked at by none of the three.
internal_read-found : (map external_reads (transactions_of internal_read) ≡ [] ∷ [] ∷ []) × (g1a (transactions_of internal_read) ≡ None) × (stray (transactions_of internal_read) ≡ 0)
internal_read-found = (refl, refl, refl)

-- A failed transaction wrote a value over, and the value is read.
abbrev both_at_once : List Operation
both_at_once =
    invoke 0 (sets x 1 ∷ sets x 2 ∷ [])
    ∷ fail 0
    ∷ invoke 1 (finds_nil x ∷ [])
    ∷ ok 1 (gets x 1 ∷ [])
    ∷ []

-- It keeps the rules of the journal, and is what the journal then holds.
both_at_once-legal : IsLegal both_at_once
both_at_once-legal = (refl, refl)

-- The read is both a G1a and a G1b, which looks at writers of every status.
both_at_once-found : (g1a (transactions_of both_at_once) ≡ Some (record { reader = 2; version = version x 1; writer = 0 })) × (g1b (transactions_of both_at_once) ≡ Some (record { reader = 2; version = version x 1; writer = 0 }))
both_at_once-found = (refl, refl)

-- Invocations name the failed value, but none of them is ok.
abbrev unknown_reader : List Operation
unknown_reader =
    invoke 0 (sets x 1 ∷ [])
    ∷ fail 0
    ∷ invoke 1 (gets x 1 ∷ [])
    ∷ info 1
    ∷ invoke 2 (gets x 1 ∷ [])
    ∷ fail 2
    ∷ invoke 3 (gets x 1 ∷ [])
    ∷ []

-- It keeps the rules of the journal, and is what the journal then holds.
unknown_reader-legal : IsLegal unknown_reader
unknown_reader-legal = (refl, refl)

-- Only what an ok transaction read counts, and what an invocation says of a read is not looked at.
unknown_reader-found : (g1a (transactions_of unknown_reader) ≡ None) × (names (nodes (transactions_of unknown_reader)) ≡ [])
unknown_reader-found = (refl, refl)

-- Two transactions read failed values, and the one that was invoked first completes last and reads two.
abbrev two_bad_reads : List Operation
two_bad_reads =
    invoke 0 (sets x 1 ∷ sets y 1 ∷ [])
    ∷ fail 0
    ∷ invoke 1 (finds_nil y ∷ finds_nil x ∷ [])
    ∷ invoke 2 (finds_nil x ∷ [])
    ∷ ok 2 (gets x 1 ∷ [])
    ∷ ok 1 (gets y 1 ∷ gets x 1 ∷ [])
    ∷ []

-- It keeps the rules of the journal, and is what the journal then holds.
two_bad_reads-legal : IsLegal two_bad_reads
two_bad_reads-legal = (refl, refl)

-- The reader with the least index is told, and its first such read.
two_bad_reads-g1a : g1a (transactions_of two_bad_reads) ≡ Some (record { reader = 2; version = version y 1; writer = 0 })
two_bad_reads-g1a = refl
