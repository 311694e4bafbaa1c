-- It goes on as a replay.
use Rattle.clean_order.specs.Replaying.{IsReplaying}
use Rattle.clean_order.specs.Waiting.{steps_left}
use Rattle.clean_order.proofs.replay.put_after.Given as goal

abbrev pub invariant-loop-last : goal.invariant-loop-last
invariant-loop-last g l = IsReplaying l.txns l.versions.versions l.initial.replay → IsReplaying l.txns l.versions.versions l.replay

abbrev pub decreases-loop-last : goal.decreases-loop-last
decreases-loop-last g l = steps_left l.waiting
