-- A transaction that was open, and the same one completed.
--
-- An ok that the journal takes repeats the keys and the written values of its invocation, and a
-- fail or an info leaves the transaction its invocation's micro-operations. So only what its reads
-- returned can be new.
use Rattle.std.specs.Prelude.{◌≡◌, map}
use Rattle.op_view.specs.Mops.{key_of}
use Rattle.hist_types.specs.Journal.{writes_of}
use Rattle.hist_types.specs.Transactions.{Transaction, Open}

-- the later transaction is the first one, completed
pub record Completes (t later : Transaction) : Type 0 where
  pub unended : t.status ≡ Open
  pub process : later.process ≡ t.process
  pub invocation : later.invocation ≡ t.invocation
  pub keys : map key_of later.mops ≡ map key_of t.mops
  pub writes : writes_of later.mops ≡ writes_of t.mops
