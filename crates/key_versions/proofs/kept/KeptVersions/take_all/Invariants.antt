-- The accesses are those of the transactions so far, and what is known of the numbers is of the writes of the others.
use Rattle.std.proofs.Common.{◌≡◌, take, drop}
use Rattle.history_laws.specs.Writers.{writes_of_all}
use Rattle.key_versions.specs.Given.{AreKeptBeside, HaveNumbers}
use Rattle.key_versions.proofs.kept.KeptVersions.take_all.Given as goal

abbrev pub invariant-loop-txn : goal.invariant-loop-txn
invariant-loop-txn g l =
    AreKeptBeside l.fn.self.versions (take l.txn-index l.txns) l.self × (l.self.keys ≡ l.fn.self.keys)
    × HaveNumbers l.next l.self.versions (writes_of_all (drop l.txn-index l.txns))
