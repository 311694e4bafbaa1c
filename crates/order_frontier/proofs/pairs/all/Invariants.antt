-- The predecessors so far are those of the transactions so far, in ranges of the lists.
use Rattle.std.proofs.Common.{◌≡◌, map, take}
use Rattle.order_frontier.specs.Pairs.{all_before}
use Rattle.order_frontier.specs.Ranges.{before_in, AreRowsOf}
use Rattle.order_frontier.proofs.pairs.all.Given as goal

abbrev pub invariant-loop-txn : goal.invariant-loop-txn
invariant-loop-txn l = record {
  order : map (before_in l.in_process.items l.in_realtime.items) l.rows.items ≡ map (all_before l.done.items) (take l.txn-index l.txns);
  are : AreRowsOf l.in_process.items l.in_realtime.items l.rows.items;
}
