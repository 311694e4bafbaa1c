use Rattle.std.proofs.Common.{◌≡◌}
use Rattle.block_reader.specs.Reading.{HasReadTo}
use Rattle.block_reader.proofs.alone.blocks_of.Given as goal

abbrev pub invariant-loop : goal.invariant-loop
invariant-loop l = HasReadTo l.text l.reader l.blocks × (l.reader.state.text ≡ l.text)
