use Rattle.std.proofs.Common.{arith}
use Rattle.block_reader.specs.Blocks.{operations_in}
use Rattle.block_reader.proofs.Through.{through_none, through_all}
use Rattle.block_reader.proofs.parts.joined.Goals as goal

pub loop-part-init : goal.loop-part-init
loop-part-init c = rw c.new-blocks.ensures.items (omega arith, through_none c.args.text.now c.args.starts.now c.requires.starts)

pub returns-then-next-starts : goal.returns-then-next-starts
returns-then-next-starts c =
    through_all c.args.text.now c.args.starts.now c.loop-part.next (operations_in c.loop-part.blocks.items) c.if-next-starts.true c.loop-part.invariant.1
