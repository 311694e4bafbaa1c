-- The updated versions so far are marked.
use Rattle.std.proofs.Common.{take}
use Rattle.clean_order.specs.Replaying.{AreStillMarked, AreUpdatedMarked}
use Rattle.clean_order.proofs.replaying.mark_updated.Given as goal

abbrev pub invariant-loop-read : goal.invariant-loop-read
invariant-loop-read l =
    AreStillMarked l.initial.followed l.followed
    × AreUpdatedMarked l.followed (take l.read-index l.reads) l.writes
