use Rattle.std.proofs.Common.{◌∙◌}
use Rattle.hist_types.specs.LegalAnswers.{accepted, refused}
use Rattle.hist_types.specs.Sessions.{reply_of}
use Rattle.verdict_serve.proofs.Answered.{printed, import_reply}
use Rattle.verdict_serve.proofs.session.answer_import.Goals as goal

pub returns-in-Ok-clause-reply : goal.returns-in-Ok-clause-reply
returns-in-Ok-clause-reply g c =
    let given = accepted c.in-Ok.index in
    let r = c.write_all in
    record {
      reply = reply_of given;
      legal = import_reply c.args.seat.now c.import.new.self c.args.text.now given c.in-Ok.ensures.legal;
      printed = printed g.T.Sink r.result _ _ _ _ (c.deref.ensures.0 ∙ c.number_line.ensures) r.ensures.ok r.ensures.err;
    }

pub returns-in-Err-clause-reply : goal.returns-in-Err-clause-reply
returns-in-Err-clause-reply g c =
    let given = refused c.in-Err.fault in
    record {
      reply = reply_of given;
      legal = import_reply c.args.seat.now c.import.new.self c.args.text.now given c.in-Err.ensures.legal;
      printed = c.write_refusal.ensures;
    }
