-- The readers so far start after the writer's commit.
use Rattle.std.proofs.Common.{All, take}
use Rattle.clean_order.specs.Highest.{IsHigher}
use Rattle.clean_order.proofs.keeping.keeps_to_readers.Given as goal

abbrev pub invariant-loop-reader : goal.invariant-loop-reader
invariant-loop-reader l = All (IsHigher l.starts l.written) (take l.reader-index l.readers)
