-- The operations that were read are those of the block.
use Rattle.std.proofs.Common.{List}
use Rattle.hist_types.specs.Entries.{PlacedOperation}
use Rattle.block_reader.specs.OneBlock.{HasReadPlaced, AreIn}
use Rattle.block_reader.proofs.one_block.fill.Given as goal

abbrev pub invariant-loop : goal.invariant-loop
invariant-loop l = (os : List PlacedOperation) × HasReadPlaced l.text l.reader os × AreIn os l.builder
