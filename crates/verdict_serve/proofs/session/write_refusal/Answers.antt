use Rattle.std.proofs.Common.{◌∙◌}
use Rattle.verdict_serve.proofs.Answered.{printed, skipped_reply, other_reply}
use Rattle.verdict_serve.proofs.session.write_refusal.Goals as goal

pub returns-in-EmptyImport : goal.returns-in-EmptyImport
returns-in-EmptyImport g c =
    let r = c.write_all in
    printed g.T.Sink r.result _ _ _ _ (skipped_reply c.args.fault c.in-EmptyImport.is) r.ensures.ok r.ensures.err

pub returns-in_default : goal.returns-in_default
returns-in_default g c =
    let r = c.write_all-in_default in
    let bytes = c.deref.ensures.0 ∙ c.refusal_line.ensures ∙ other_reply c.args.fault c.in_default.not-EmptyImport in
    printed g.T.Sink r.result _ _ _ _ bytes r.ensures.ok r.ensures.err
