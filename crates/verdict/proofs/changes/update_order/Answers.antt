use Rattle.std.proofs.Common.{◌∙◌, inr, sym}
use Rattle.std.proofs.lemmas.Result.{on_ok_weaker}
use Rattle.order_frontier.proofs.Thinnings.{thinning_failed}
use Rattle.verdict.proofs.OneEvent.{begins_where_open, ends_where_not_open, not_open, ended_without_ok}
use Rattle.verdict.proofs.changes.update_order.Goals as goal

pub returns-in-Open : goal.returns-in-Open
returns-in-Open c = λ events event later place changes is.
    on_ok_weaker c.begin.result
    (λ next. next events event is (begins_where_open events event later place c.args.txn.now changes (sym c.in-Open.ensures)).by)
    c.begin.ensures.next

pub returns-in-Ok : goal.returns-in-Ok
returns-in-Ok c = λ events event later place changes is.
    let ended = ends_where_not_open events event later place c.args.txn.now changes (λ unended. cc (c.in-Ok.ensures, unended)) in
    on_ok_weaker c.complete.result (λ next. next events event is (ended.by (sym c.in-Ok.ensures))) c.complete.ensures.next

pub returns-in-Fail : goal.returns-in-Fail
returns-in-Fail c = λ events event later place changes is.
    let ended = ends_where_not_open events event later place c.args.txn.now changes (not_open c.status.result c.args.txn.now.status (inr c.in-Fail.is) c.status.ensures) in
    thinning_failed events event c.args.order.now is (ended_without_ok event.kind c.status.result c.in-Fail.is (c.status.ensures ∙ ended.status))
