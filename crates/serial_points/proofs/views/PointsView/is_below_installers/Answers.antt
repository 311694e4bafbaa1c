use Rattle.std.proofs.Common.{rules, All, subst}
use Rattle.std.proofs.lemmas.List.Elements.{All-more}
use Rattle.serial_points.specs.Stepping.{IsHigherUnlessLeftOut}
use Rattle.serial_points.proofs.Listed.{all_gone}
use Rattle.serial_points.proofs.views.PointsView.is_below_installers.Goals as goal

pub loop-other-preserved : goal.loop-other-preserved
loop-other-preserved g c =
    let holds = IsHigherUnlessLeftOut c.args.self.now c.args.place c.args.version in
    All-more holds c.writers-others.result.now c.loop-other.other-index 0 c.loop-other-test.true c.loop-other.invariant
    (c.is_lower_or_no_install.ensures (search rules))

pub returns : goal.returns
returns g c = λ _.
    let holds = IsHigherUnlessLeftOut c.args.self.now c.args.place c.args.version in
    subst (All holds) c.writers-others.ensures (all_gone holds c.writers-others.result.now c.loop-other.other-index c.loop-other-test.false c.loop-other.invariant)
