use Rattle.std.proofs.Common.{List, refl, sym, subst}
use Rattle.std.proofs.lemmas.Result.{IfOk-weaker}
use Rattle.hist_types.specs.Reports.{IsVerdictOf}
use Rattle.hist_types.specs.Transactions.{Transaction}
use Rattle.hist_types.specs.declared.types.KeyOrder.{KeyOrder}
use Rattle.key_versions.specs.Kept.{AreKept}
use Rattle.verdict.proofs.Growing.{tables_of_kept}
use Rattle.verdict.proofs.analysis.TablesSoFar.verdict_by_search.Goals as goal

pub finish-requires : goal.finish-requires
finish-requires g c =
    subst (λ (ts : List Transaction). AreKept ts c.args.self.now.versions) (sym c.txns-txns.ensures) c.requires.1.versions

pub verdict_from-requires : goal.verdict_from-requires
verdict_from-requires g c =
    let (events, so_far) = c.requires in
    (events, tables_of_kept events c.args.self.now _ so_far refl c.txns-txns.ensures c.in_ok-versions.ensures.ok c.in_ok-versions.ensures.keys (c.order.ensures events so_far.order))

pub returns : goal.returns
returns g c = λ events so_far.
    IfOk-weaker _ _ _ (λ v is. subst (λ (keys : KeyOrder). IsVerdictOf keys events v) c.in_ok-versions.ensures.keys is)
    (c.verdict_from.ensures events (tables_of_kept events c.args.self.now _ so_far refl c.txns-txns.ensures c.in_ok-versions.ensures.ok c.in_ok-versions.ensures.keys (c.order.ensures events so_far.order)))
