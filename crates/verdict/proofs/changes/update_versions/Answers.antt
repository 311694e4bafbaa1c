use Rattle.std.proofs.Common.{◌∙◌, ℕ, List, sym, subst}
use Rattle.std.specs.Prelude.{OnOk}
use Rattle.std.proofs.lemmas.Option.{slice_get_within}
use Rattle.std.proofs.lemmas.Result.{on_ok_weaker}
use Rattle.hist_types.specs.Transactions.{Transaction, transactions_of}
use Rattle.key_versions.specs.Kept.{AreKept, StayBeside}
use Rattle.clean_order.proofs.Accesses.{kept_count}
use Rattle.verdict.proofs.OneEvent.{begins_where_open, ends_where_not_open, not_open}
use Rattle.verdict.proofs.changes.update_versions.Goals as goal

pub begin-requires : goal.begin-requires
begin-requires g c =
    let (events, event, later, changes, are) = c.requires in
    (transactions_of events, are)

pub complete-requires : goal.complete-requires
complete-requires g c =
    let (events, event, later, changes, are) = c.requires in
    let ended = ends_where_not_open events event later c.args.place c.args.txn.now changes (not_open c.status.result c.args.txn.now.status c.in-Ok.is c.status.ensures) in
    (transactions_of events, are, slice_get_within (transactions_of events) c.args.place ended.was ended.there)

pub returns-in-Open-clause-kept : goal.returns-in-Open-clause-kept
returns-in-Open-clause-kept g c = λ events event later changes are.
    let begun = begins_where_open events event later c.args.place c.args.txn.now changes (sym c.in-Open.ensures) in
    on_ok_weaker c.begin.result (λ kept. subst (λ (ts : List Transaction). AreKept ts c.begin.new.self) (sym begun.listed) kept) (c.begin.ensures.kept (transactions_of events) are)

pub returns-in-Open-clause-others : goal.returns-in-Open-clause-others
returns-in-Open-clause-others g c =
    let (events, event, later, changes, are) = c.requires in
    let begun = begins_where_open events event later c.args.place c.args.txn.now changes (sym c.in-Open.ensures) in
    subst (λ (n : ℕ). OnOk c.begin.result (StayBeside n c.args.versions.now.accesses c.begin.new.self.accesses))
    (kept_count (transactions_of events) c.args.versions.now are ∙ sym begun.last) c.begin.ensures.others

pub returns-in-Ok-clause-kept : goal.returns-in-Ok-clause-kept
returns-in-Ok-clause-kept g c = λ events event later changes are.
    let ended = ends_where_not_open events event later c.args.place c.args.txn.now changes (not_open c.status.result c.args.txn.now.status c.in-Ok.is c.status.ensures) in
    on_ok_weaker c.complete.result (λ kept. subst (λ (ts : List Transaction). AreKept ts c.complete.new.self) (sym ended.listed) kept)
    (c.complete.ensures.kept (transactions_of events) ended.was are ended.there ended.completes)
