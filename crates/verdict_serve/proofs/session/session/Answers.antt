use Rattle.std.proofs.Common.{◌≡◌, ℕ, inl, inr, subst}
use Rattle.verdict_serve.specs.Served.{HasLostDevice}
use Rattle.verdict_serve.proofs.Serving.{nothing_served, served_more, served_quit, served_all, lost_source, lost_sink}
use Rattle.verdict_serve.proofs.session.session.Goals as goal

pub loop-init : goal.loop-init
loop-init g c = (tt, tt, rw c.in-Ok.ensures (nothing_served g.S.Source g.T.Sink c.args.seat.now c.args.source.now c.args.sink.now))

pub loop-preserved : goal.loop-preserved
loop-preserved g c =
    let step = rw c.in-Ok-Answered.field-0-is at c.in-Ok-Answered.ensures.ok in (
      tt,
      tt,
      served_more g.S.Source g.T.Sink c.args.seat.now c.args.source.now c.args.sink.now c.loop.lines.unread c.serve_line.new.lines.unread c.loop.answered _ c.loop.seat c.serve_line.new.seat
          _ _ _ _ c.loop.invariant.2 step c.in-Ok-Answered.ensures.seat c.saturating_add-answered.ensures,
    )

pub returns-in-Ok-Quit-clause-ended : goal.returns-in-Ok-Quit-clause-ended
returns-in-Ok-Quit-clause-ended g c =
    let step = rw c.in-Ok-Quit.field-0-is at c.in-Ok-Quit.ensures.ok in
    served_quit g.S.Source g.T.Sink c.args.seat.now c.args.source.now c.args.sink.now c.loop.lines.unread c.serve_line.new.lines.unread c.loop.answered c.loop.seat c.serve_line.new.seat
    _ _ _ _ c.loop.invariant.2 step

pub returns-in-Ok-End-clause-ended : goal.returns-in-Ok-End-clause-ended
returns-in-Ok-End-clause-ended g c =
    let step = rw c.in-Ok-End.field-0-is at c.in-Ok-End.ensures.ok in
    served_all g.S.Source g.T.Sink c.args.seat.now c.args.source.now c.args.sink.now c.loop.lines.unread c.loop.answered c.loop.seat c.serve_line.new.seat
    _ _ _ _ c.loop.invariant.2 step

pub returns-in-Err-clause-device : goal.returns-in-Err-clause-device
returns-in-Err-clause-device g c = λ answered e.
    let same : c.loop.answered ≡ answered = cc in
    subst (λ (n : ℕ). HasLostDevice g.S.Source g.T.Sink n c.args.seat.now c.serve_line.new.seat c.args.source.now c.serve_line.new.source c.args.sink.now c.serve_line.new.sink) same
    (elim c.in-Err.ensures.err [
      | inl lost ↦ inl (lost_source g.S.Source g.T.Sink c.args.seat.now c.args.source.now c.args.sink.now c.loop.lines.unread c.loop.answered c.loop.seat c.serve_line.new.seat _ _ _ _ c.loop.invariant.2 lost)
      | inr lost ↦ inr (lost_sink g.S.Source g.T.Sink c.args.seat.now c.args.source.now c.args.sink.now c.loop.lines.unread c.loop.answered c.loop.seat c.serve_line.new.seat _ _ _ _ c.loop.invariant.2 lost)
    ])
