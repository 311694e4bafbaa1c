use Rattle.verdict_serve.proofs.Serving.{Serving}
use Rattle.verdict_serve.proofs.session.session.Given as goal

abbrev pub invariant-loop : goal.invariant-loop
invariant-loop g l =
    (goal.iterator-loop g).can_next l.iterator' × (goal.iterator-loop g).is_finite l.iterator'
    × Serving g.S.Source g.T.Sink l.fn.seat l.fn.source l.fn.sink l.lines.unread l.answered l.seat l.source l.sink
