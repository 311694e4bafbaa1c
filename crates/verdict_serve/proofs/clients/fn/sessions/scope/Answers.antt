use Rattle.std.proofs.Common.{◌∙◌, ap, inl, arith}
use Rattle.std.proofs.lemmas.Result.{IfOk-weaker, IfErr-weaker}
use Rattle.std.specs.Vec.Iter.{into_iter_items}
use Rattle.verdict_serve.proofs.Seating.{taken_more, taken_all, started_more, served_by}
use Rattle.verdict_serve.specs.declared.clients.EndOf.{EndOf}
use Rattle.verdict_serve.proofs.clients.fn.sessions.scope.Goals as goal

pub loop-place-preserved : goal.loop-place-preserved
loop-place-preserved g c = (
  taken_more c.loop-place.yielded (into_iter_items c.loop-place.place-iterator) (into_iter_items c.next.new.self) _ c.in-Some.place c.loop-place.invariant.0 c.in-Some.ensures.steps.0,
  started_more c.loop-place.started.items c.push.new.self.items c.loop-place.yielded c.in-Ok.thread c.in-Some.place c.loop-place.invariant.1
      (ap (λ (e : EndOf g.row.S.Denot g.row.T.Denot). e.place.value) c.in-Ok.ensures.ok ∙ c.of.ensures) c.in_ok-push.ensures.items,
)

pub returns : goal.returns
returns g c =
    let rest = into_iter_items c.loop-place.place-iterator in
    let all = taken_all c.loop-place.yielded rest (into_iter_items c.into_iter-place-iterator.result) c.loop-place.invariant.0 (omega (arith, c.in-None.ensures.steps.0, c.loop-place.place-iterator.rest.ok)) in
    record {
      served = IfOk-weaker c.joined.result _ _
          (λ ends joined. served_by g.S.Source g.T.Sink c.captures.journal.now c.captures.clients.items c.in_ok-places.places.items c.loop-place.started.items ends.items c.in_ok-places.ensures.ok
          (c.loop-place.invariant.1 ∙ all ∙ c.into_iter-place-iterator.ensures.into_iter_gives.0) joined) c.joined.ensures.ok;
      err = IfErr-weaker c.joined.result _ _ (λ fault e. inl e) c.joined.ensures.err;
    }
