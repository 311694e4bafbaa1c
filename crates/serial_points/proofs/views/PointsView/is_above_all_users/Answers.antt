use Rattle.std.proofs.Common.{rules}
use Rattle.std.proofs.lemmas.List.Elements.{All-more}
use Rattle.serial_points.specs.Stepping.{AboveUsers}
use Rattle.serial_points.proofs.Listed.{all_gone}
use Rattle.serial_points.proofs.views.PointsView.is_above_all_users.Goals as goal

pub loop-version-preserved : goal.loop-version-preserved
loop-version-preserved g c =
    let holds = AboveUsers c.args.self.now c.args.place in
    All-more holds c.args.earlier.now c.loop-version.version-index 0 c.loop-version-test.true c.loop-version.invariant
    (c.is_above_users.ensures (search rules))

pub returns : goal.returns
returns g c = λ _.
    let holds = AboveUsers c.args.self.now c.args.place in
    all_gone holds c.args.earlier.now c.loop-version.version-index c.loop-version-test.false c.loop-version.invariant
