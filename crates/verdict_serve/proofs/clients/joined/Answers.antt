use Rattle.std.specs.Vec.Iter.{into_iter_items}
use Rattle.verdict_serve.proofs.Seating.{taken_more, joined_more}
use Rattle.verdict_serve.proofs.clients.joined.Goals as goal

pub loop-thread-preserved : goal.loop-thread-preserved
loop-thread-preserved g c = (
  taken_more c.loop-thread.yielded (into_iter_items c.loop-thread.thread-iterator) (into_iter_items c.next.new.self) _ c.in-Some.thread c.loop-thread.invariant.0 c.in-Some.ensures.steps.0,
  joined_more g.S.Source g.T.Sink c.loop-thread.yielded c.loop-thread.ends.items c.push.new.self.items c.in-Some.thread c.join.result c.loop-thread.invariant.1 c.join.ensures c.in_ok-push.ensures.items,
)
