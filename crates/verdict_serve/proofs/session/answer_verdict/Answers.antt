use Rattle.hist_types.specs.LegalAnswers.{refused}
use Rattle.hist_types.specs.Sessions.{reply_of}
use Rattle.verdict_serve.proofs.Answered.{verdict_reply}
use Rattle.verdict_serve.proofs.session.answer_verdict.Goals as goal

pub returns-in-Err-clause-reply : goal.returns-in-Err-clause-reply
returns-in-Err-clause-reply g c =
    let given = refused c.in-Err.fault in
    record {
      reply = reply_of given;
      legal = verdict_reply c.args.seat.now c.verdict.new.self given c.in-Err.ensures.legal;
      printed = c.write_refusal.ensures;
    }
