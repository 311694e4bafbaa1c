use Rattle.std.proofs.Common.{◌≡◌, ◌++◌, drop}
use Rattle.hist_types.specs.Transactions.{transactions_of}
use Rattle.block_reader.specs.Blocks.{operations_in}
use Rattle.command_run.proofs.BlockByBlock.{HasTaken}
use Rattle.command_run.proofs.judged.Judged.extended.Given as goal

abbrev pub invariant-loop-block : goal.invariant-loop-block
invariant-loop-block l =
    HasTaken l.core.events (operations_in (drop l.block-index l.blocks)) (l.initial.core.events ++ operations_in l.blocks)
    × (l.pairing ≡ transactions_of l.core.events)
