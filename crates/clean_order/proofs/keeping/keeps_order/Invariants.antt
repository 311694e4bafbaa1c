-- The transactions so far are listed, and start no earlier than the clock shows at their invocations.
use Rattle.clean_order.proofs.Timely.{AreTimely}
use Rattle.clean_order.proofs.keeping.keeps_order.Given as goal

abbrev pub invariant-loop-place : goal.invariant-loop-place
invariant-loop-place l = AreTimely l.deps.txns l.starts l.commits l.ends l.highest l.before l.place
