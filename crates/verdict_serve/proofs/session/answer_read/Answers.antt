use Rattle.hist_types.specs.LegalAnswers.{refused}
use Rattle.hist_types.specs.Refusals.{memory_fault}
use Rattle.hist_types.specs.Sessions.{reply_of}
use Rattle.verdict_serve.proofs.Answered.{read_reply, read_without_memory}
use Rattle.verdict_serve.proofs.session.answer_read.Goals as goal

pub returns-in-Ok-clause-reply : goal.returns-in-Ok-clause-reply
returns-in-Ok-clause-reply g c =
    record {
      reply = reply_of (refused memory_fault);
      legal = read_without_memory c.args.seat.now c.read.new.self c.args.from c.args.to _ c.in-Ok.ensures.legal;
      printed = rw c.memory.ensures at c.write_refusal.ensures;
    }

pub returns-clause-reply : goal.returns-clause-reply
returns-clause-reply g c =
    let given = refused c.in-Err.fault in
    record {
      reply = reply_of given;
      legal = read_reply c.args.seat.now c.read.new.self c.args.from c.args.to given c.in-Err.ensures.legal;
      printed = c.write_refusal-in-Err.ensures;
    }
