-- The order so far is that of the transactions so far.
use Rattle.process_map.specs.Values.{value_of}
use Rattle.order_frontier.proofs.Passes.{IsPart}
use Rattle.order_frontier.proofs.thinning.thinned.Given as goal

abbrev pub invariant-loop-txn : goal.invariant-loop-txn
invariant-loop-txn l = IsPart l.txns l.done.items l.txn-index l.taken l.thinning.recent (value_of l.thinning.last) l.thinning.order
