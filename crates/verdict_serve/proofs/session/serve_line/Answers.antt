use Rattle.std.proofs.Common.{inr}
use Rattle.std.proofs.lemmas.Result.{err_from_is_err_and}
use Rattle.verdict_serve.specs.Sayings.{said}
use Rattle.verdict_serve.proofs.Stepping.{says_line, stepped, lost_reply}
use Rattle.verdict_serve.proofs.session.serve_line.Goals as goal

pub returns-in_err-answer-clause-err : goal.returns-in_err-answer-clause-err
returns-in_err-answer-clause-err g c =
    let says = says_line g.S.Source g.T.Sink c.in_ok-next.next (said c.in-Some.saying) c.args.lines.now.unread c.args.source.now c.next.new.source c.next.new.self c.in_ok-next.ensures.ok c.in-Some.ensures in
    let p = err_from_is_err_and c.from_residual-in_err-answer.result c.from_residual-in_err-answer.ensures.1 in
    rw p.1 (inr (lost_reply g.S.Source g.T.Sink _ _ _ _ c.args.seat.now c.answer.new.seat _ _ _ _ says c.in_err-answer.ensures.reply))

pub returns-clause-ok : goal.returns-clause-ok
returns-clause-ok g c =
    let says = says_line g.S.Source g.T.Sink c.in_ok-next.next (said c.in-Some.saying) c.args.lines.now.unread c.args.source.now c.next.new.source c.next.new.self c.in_ok-next.ensures.ok c.in-Some.ensures in
    rw c.step_for.ensures (stepped g.S.Source g.T.Sink (said c.in-Some.saying) _ _ _ c.args.seat.now c.answer.new.seat _ _ _ _ says c.in_ok-answer.ensures.reply)
