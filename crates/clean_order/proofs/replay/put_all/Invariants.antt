-- It goes on as a replay.
use Rattle.clean_order.specs.Replaying.{IsReplaying}
use Rattle.clean_order.proofs.replay.put_all.Given as goal

abbrev pub invariant-loop-place : goal.invariant-loop-place
invariant-loop-place g l = IsReplaying l.txns l.versions.versions l.initial.replay → IsReplaying l.txns l.versions.versions l.replay
