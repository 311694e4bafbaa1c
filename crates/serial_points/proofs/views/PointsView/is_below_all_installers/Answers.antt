use Rattle.std.proofs.Common.{rules}
use Rattle.std.proofs.lemmas.List.Elements.{All-more}
use Rattle.serial_points.specs.Stepping.{BelowInstallers}
use Rattle.serial_points.proofs.Listed.{all_gone}
use Rattle.serial_points.proofs.views.PointsView.is_below_all_installers.Goals as goal

pub loop-version-preserved : goal.loop-version-preserved
loop-version-preserved g c =
    let holds = BelowInstallers c.args.self.now c.args.place in
    All-more holds c.args.later.now c.loop-version.version-index 0 c.loop-version-test.true c.loop-version.invariant
    (c.is_below_installers.ensures (search rules))

pub returns : goal.returns
returns g c = λ _.
    let holds = BelowInstallers c.args.self.now c.args.place in
    all_gone holds c.args.later.now c.loop-version.version-index c.loop-version-test.false c.loop-version.invariant
