use Rattle.std.proofs.Common.{◌∙◌, codes, refl}
use Rattle.hist_types.specs.Refusals.{without_place}
use Rattle.hist_types.specs.Texts.{line, refusal_line}
use Rattle.hist_types.specs.declared.types.Refusal.TheVariants.{BlockFull}
use Rattle.verdict_serve.proofs.Answered.{printed, overlong_reply, quit_reply}
use Rattle.verdict_serve.proofs.session.answer.Goals as goal

pub returns-in-Overlong-clause-reply : goal.returns-in-Overlong-clause-reply
returns-in-Overlong-clause-reply g c =
    let r = c.write_all in
    rw c.in-Overlong.is
    (record {
      reply = refusal_line (without_place BlockFull);
      legal = overlong_reply c.args.seat.now;
      printed = printed g.T.Sink r.result _ _ _ _ (c.deref.ensures.0 ∙ c.refusal_line.ensures) r.ensures.ok r.ensures.err;
    })

pub returns-in-Quit-clause-reply : goal.returns-in-Quit-clause-reply
returns-in-Quit-clause-reply g c =
    let r = c.write_all-in-Quit in
    rw c.in-Quit.is
    (record {
      reply = line (codes "bye");
      legal = quit_reply c.args.seat.now;
      printed = printed g.T.Sink r.result _ _ _ _ refl r.ensures.ok r.ensures.err;
    })
