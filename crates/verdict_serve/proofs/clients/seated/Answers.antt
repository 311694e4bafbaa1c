use Rattle.std.proofs.Common.{◌∙◌, arith}
use Rattle.std.specs.Vec.Iter.{into_iter_items}
use Rattle.verdict_serve.proofs.Seating.{taken_more, seated_push}
use Rattle.verdict_serve.proofs.clients.seated.Goals as goal

pub loop-client-preserved : goal.loop-client-preserved
loop-client-preserved g c =
    let seat = c.in_ok-seat.ensures in (
      taken_more c.loop-client.yielded (into_iter_items c.loop-client.client-iterator) (into_iter_items c.next.new.self) _ c.in-Some.client c.loop-client.invariant.0 c.in-Some.ensures.steps.0,
      c.in_ok-push.ensures.items
          ∙ seated_push c.args.journal.now c.loop-client.yielded c.loop-client.places.items c.in_ok-seat.seat c.in-Some.client c.loop-client.invariant.1 seat.row seat.keys
          (omega (arith, seat.number, c.in-Ok.ensures.1, c.len-in-loop-client.ensures, c.loop-client.places.ok)) seat.view,
    )
