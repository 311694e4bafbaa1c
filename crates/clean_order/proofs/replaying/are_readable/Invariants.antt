-- The reads so far are readable.
use Rattle.std.proofs.Common.{All, take}
use Rattle.clean_order.specs.Replaying.{IsReadable}
use Rattle.clean_order.proofs.replaying.are_readable.Given as goal

abbrev pub invariant-loop-read : goal.invariant-loop-read
invariant-loop-read l = All (IsReadable l.written l.followed) (take l.read-index l.reads)
