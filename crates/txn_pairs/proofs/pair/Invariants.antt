-- The transactions so far are those of the events so far.
use Rattle.std.proofs.Common.{◌≡◌, length}
use Rattle.hist_types.specs.Transactions.{transactions_of}
use Rattle.txn_pairs.proofs.pair.Given as goal

abbrev pub invariant-loop-event : goal.invariant-loop-event
invariant-loop-event l = (l.pairing ≡ transactions_of l.yielded) × (l.index ≡ length l.yielded)
