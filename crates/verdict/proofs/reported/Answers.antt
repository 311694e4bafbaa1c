use Rattle.std.proofs.Common.{length, refl, ap, sym, subst}
use Rattle.std.proofs.lemmas.Result.{IfOk-weaker}
use Rattle.verdict.specs.Tables.{IsVerdictFor}
use Rattle.verdict.proofs.Reports.{verdict_for}
use Rattle.verdict.proofs.reported.Goals as goal

pub returns : goal.returns
returns c = λ keys found bad.
    IfOk-weaker _ _ (IsVerdictFor keys c.args.events c.args.txns.now)
    (λ v is.
    subst (IsVerdictFor keys c.args.events c.args.txns.now) (sym is)
    (verdict_for keys c.args.events c.args.txns.now c.args.reads _ found bad refl (ap length c.as_slice.ensures) refl refl refl))
    c.new.ensures
