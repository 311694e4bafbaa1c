-- The operations of blocks.
use Rattle.std.specs.Prelude.{◌≡◌, List, ◌++◌, map}
use Rattle.std.specs.List.{flat_map}
use Rattle.hist_types.specs.Operations.{Operation}
use Rattle.op_block.specs.Contents.{BlockOperation, Contents, operation_meant, operations_of}

-- the operations of a block that is being built
abbrev pub operations_pushed : List BlockOperation → List Operation
operations_pushed os = map operation_meant os

-- the operations of blocks, one block after the other
abbrev pub operations_in : List Contents → List Operation
operations_in blocks = flat_map operations_of blocks

-- beside the operations that the blocks had, they have those that were pushed, after them
abbrev pub HaveAlso : (blocks : List Contents) → List BlockOperation → (blocks' : List Contents)
    → Type 0
HaveAlso blocks pushed blocks' =
    operations_in blocks' ≡ operations_in blocks ++ operations_pushed pushed
