use Rattle.std.proofs.Common.{List, ◌++◌}
use Rattle.hist_types.specs.Operations.{Operation}
use Rattle.block_reader.specs.Blocks.{operations_in}
use Rattle.block_reader.specs.Rounds.{HasCome}
use Rattle.block_reader.proofs.rounds.read_source.Given as goal

abbrev pub invariant-loop-cell : goal.invariant-loop-cell
invariant-loop-cell g l =
    (before : List Operation) × g.C.Consumer.has_taken l.consumer before
    × HasCome g.S.Source l.fn.source l.source l.reading (before ++ operations_in l.last)
