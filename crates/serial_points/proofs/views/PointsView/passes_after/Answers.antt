use Rattle.std.proofs.Common.{rules, sym, ◌∙◌, subst}
use Rattle.std.proofs.lemmas.Option.{same_Some}
use Rattle.clean_order.specs.Points.{IsNotAfter}
use Rattle.serial_points.specs.Falls.{WritersPass}
use Rattle.serial_points.specs.Passing.{PassesOutOf}
use Rattle.serial_points.proofs.views.PointsView.passes_after.Goals as goal

pub returns : goal.returns
returns g c = λ passed.
    let p = c.args.self.now in
    let place = c.args.place in
    let reads = c.reads-reads.result.now in
    record {
      own = c.passes.ensures (search rules);
      ended = λ t at.
          subst (λ n. IsNotAfter n t) c.point.ensures
          (subst (IsNotAfter c.point.result) (same_Some c.in-Some.txn.now t (sym c.in-Some.ensures.there ∙ at)) (c.is_not_after.ensures (search rules)));
      out = λ a there.
          subst (λ reads. PassesOutOf p.points p.users place reads a.writes) (c.reads-reads.ensures a there)
          (subst (λ writes. PassesOutOf p.points p.users place reads writes) (c.writes.ensures a there) (c.passes_out_of.ensures (search rules)));
      fallen = c.falls_pass.ensures (search rules);
      writers = λ a there. subst (WritersPass p) (c.reads-reads.ensures a there) (c.writers_pass.ensures passed);
    }
