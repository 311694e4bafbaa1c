use Rattle.std.proofs.Common.{rules, All, subst}
use Rattle.std.proofs.lemmas.List.Elements.{All-more}
use Rattle.serial_points.specs.Stepping.{StepRises}
use Rattle.serial_points.proofs.Listed.{all_gone}
use Rattle.serial_points.proofs.views.PointsView.fresh_steps_rise.Goals as goal

pub loop-step-preserved : goal.loop-step-preserved
loop-step-preserved g c =
    let holds = StepRises c.args.self.now in
    All-more holds c.fresh-steps.result.now c.loop-step.step-index (0, 0) c.loop-step-test.true c.loop-step.invariant
    (c.step_rises.ensures (search rules))

pub returns : goal.returns
returns g c = λ _.
    let holds = StepRises c.args.self.now in
    subst (All holds) c.fresh-steps.ensures (all_gone holds c.fresh-steps.result.now c.loop-step.step-index c.loop-step-test.false c.loop-step.invariant)
