use Rattle.std.proofs.Common.{◌∙◌, sym}
use Rattle.std.proofs.lemmas.Result.{IfOk-weaker}
use Rattle.hist_types.specs.Transactions.{transactions_of}
use Rattle.verdict.specs.Tables.{IsVerdictFor}
use Rattle.verdict.proofs.Reports.{nothing_found, no_bad_read}
use Rattle.verdict.proofs.analysis.TablesSoFar.verdict_by_points.Goals as goal

pub returns : goal.returns
returns g c = λ events so_far are.
    let of = c.txns-txns.ensures ∙ so_far.txns in
    let kept = c.args.self.now.versions in
    let ts = c.txns-txns.result.now in
    let none = c.find_nothing.ensures.reads events kept are in
    IfOk-weaker _ (IsVerdictFor kept.keys c.args.self.now.events ts) _ (λ v is. is events so_far.number of)
    (c.reported.ensures kept.keys
    (nothing_found ts (transactions_of events) of kept.keys c.none.result c.none.ensures (c.find_nothing.ensures.findings events kept are))
    (no_bad_read ts (transactions_of events) of c.none-reads.result none (c.find_nothing.ensures.stray events kept are ∙ sym (c.none-reads.ensures.stray ∙ c.strays.ensures)) c.none-reads.ensures.g1a c.none-reads.ensures.g1b))
