-- The rows are those of the transactions so far.
use Rattle.std.proofs.Common.{List, take}
use Rattle.hist_types.specs.Transactions.{Transaction}
use Rattle.key_versions.specs.Given.{IsTableBeside}
use Rattle.key_versions.specs.Kept.{AreKept}
use Rattle.key_versions.specs.Views.{table_by}
use Rattle.key_versions.proofs.kept.KeptVersions.rows.Given as goal

abbrev pub invariant-loop-place : goal.invariant-loop-place
invariant-loop-place g l =
    (ts : List Transaction) → AreKept ts l.self → IsTableBeside l.self.versions (take l.place ts) (table_by l.self.versions l.rows.rows l.rows.accesses)
