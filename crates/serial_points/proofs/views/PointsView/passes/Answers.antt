use Rattle.std.proofs.Common.{sym, ◌∙◌, subst}
use Rattle.std.proofs.lemmas.Option.{same_Some}
use Rattle.clean_order.specs.Points.{IsNotBefore}
use Rattle.serial_points.specs.Passing.{PassesInto}
use Rattle.serial_points.proofs.views.PointsView.passes.Goals as goal

pub returns-then-is_not_before : goal.returns-then-is_not_before
returns-then-is_not_before g c = λ passed.
    let p = c.args.self.now in
    let place = c.args.place in
    record {
      begun = λ t at.
          subst (λ n. IsNotBefore n t) c.point.ensures
          (subst (IsNotBefore c.point.result) (same_Some c.in-Some.txn.now t (sym c.in-Some.ensures.there ∙ at)) (c.is_not_before.ensures c.if-is_not_before.true));
      into = λ a there.
          subst (λ reads. PassesInto p.points p.users place reads a.writes) (c.reads.ensures a there)
          (subst (λ writes. PassesInto p.points p.users place c.reads.result.now writes) (c.writes.ensures a there) (c.passes_into.ensures passed));
    }
