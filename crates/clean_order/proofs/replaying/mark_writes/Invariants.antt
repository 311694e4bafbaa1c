-- The keys of the writes so far are marked, and nothing else is marked as written than what the writes install.
use Rattle.std.proofs.Common.{take}
use Rattle.clean_order.specs.Replaying.{AreStillMarked, AreKeysMarked, MarkInstalled}
use Rattle.clean_order.proofs.replaying.mark_writes.Given as goal

abbrev pub invariant-loop-i : goal.invariant-loop-i
invariant-loop-i l = record {
  stay : AreStillMarked l.initial.followed l.followed;
  keys : AreKeysMarked l.followed (take l.i l.writes);
  written : MarkInstalled l.initial.written l.written l.writes;
}
