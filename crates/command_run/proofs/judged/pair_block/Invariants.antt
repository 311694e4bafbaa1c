use Rattle.std.proofs.Common.{◌≡◌, List, ◌++◌, length, take}
use Rattle.hist_types.specs.Operations.{Operation}
use Rattle.hist_types.specs.Transactions.{transactions_of}
use Rattle.op_block.specs.Contents.{operations_of}
use Rattle.command_run.proofs.judged.pair_block.Given as goal

abbrev pub invariant-loop-index : goal.invariant-loop-index
invariant-loop-index l =
    (events : List Operation) → length events ≡ l.start → l.fn.pairing ≡ transactions_of events
    → l.pairing ≡ transactions_of (events ++ take l.index (operations_of l.block))
