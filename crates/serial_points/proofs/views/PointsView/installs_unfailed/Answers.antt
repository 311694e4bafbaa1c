use Rattle.std.proofs.Common.{◌∙◌, sym, subst}
use Rattle.clean_order.specs.Accesses.{InstallsNumber}
use Rattle.serial_points.proofs.views.PointsView.installs_unfailed.Goals as goal

pub returns : goal.returns
returns g c = λ passed.
    let (a, there) = c.in-Some.ensures.accesses in (
      c.in-Some.txn.now,
      a,
      c.in-Some.ensures.there,
      there,
      sym c.is_failed.ensures ∙ c.if-is_failed.false,
      subst (λ writes. InstallsNumber writes c.args.version) (c.writes.ensures a there) (c.installs.ensures passed),
    )
