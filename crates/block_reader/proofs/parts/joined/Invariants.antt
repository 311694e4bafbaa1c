use Rattle.std.proofs.Common.{◌≤◌, length}
use Rattle.block_reader.specs.Blocks.{operations_in}
use Rattle.block_reader.specs.Parts.{ReadsThrough, front_of}
use Rattle.block_reader.proofs.parts.joined.Given as goal

abbrev pub invariant-loop-part : goal.invariant-loop-part
invariant-loop-part l =
    (l.next ≤ length l.starts) × ReadsThrough (front_of l.text l.starts l.next) (operations_in l.blocks.items)
