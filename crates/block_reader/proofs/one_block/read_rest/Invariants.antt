use Rattle.block_reader.specs.OneBlock.{HasReadTooMany}
use Rattle.block_reader.proofs.one_block.read_rest.Given as goal

abbrev pub invariant-loop : goal.invariant-loop
invariant-loop l = HasReadTooMany l.fn.reader.state.text l.reader
