use Rattle.std.proofs.Common.{rules, All, subst}
use Rattle.std.proofs.lemmas.List.Elements.{All-more}
use Rattle.serial_points.specs.Stepping.{IsAboveStep}
use Rattle.serial_points.proofs.Listed.{all_gone}
use Rattle.serial_points.proofs.views.PointsView.step_rises.Goals as goal

pub loop-place-preserved : goal.loop-place-preserved
loop-place-preserved g c =
    let holds = IsAboveStep c.args.self.now c.args.step in
    All-more holds c.writers-places.result.now c.loop-place.place-index 0 c.loop-place-test.true c.loop-place.invariant
    (c.is_above_step.ensures (search rules))

pub returns : goal.returns
returns g c = λ _.
    let holds = IsAboveStep c.args.self.now c.args.step in
    subst (All holds) c.writers-places.ensures (all_gone holds c.writers-places.result.now c.loop-place.place-index c.loop-place-test.false c.loop-place.invariant)
