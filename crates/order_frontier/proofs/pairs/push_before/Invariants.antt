-- Those so far are of the ok transactions so far.
use Rattle.std.proofs.Common.{◌≡◌, ◌++◌, take}
use Rattle.order_frontier.specs.Pairs.{all_before}
use Rattle.order_frontier.proofs.pairs.push_before.Given as goal

abbrev pub invariant-loop-ok : goal.invariant-loop-ok
invariant-loop-ok l =
    let before = all_before (take l.ok-index l.done) l.txn in
    record {
      in_process : l.in_process.items ≡ l.initial.in_process.items ++ before.in_process;
      in_realtime : l.in_realtime.items ≡ l.initial.in_realtime.items ++ before.in_realtime;
    }
