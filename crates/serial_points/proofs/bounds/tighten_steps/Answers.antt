use Rattle.serial_points.proofs.Bounded.{bounds_again}
use Rattle.serial_points.proofs.bounds.tighten_steps.Goals as goal

pub loop-step-preserved : goal.loop-step-preserved
loop-step-preserved c =
    bounds_again c.args.points.now c.args.readers.now c.args.bounds.now c.loop-step.bounds c.tighten.new.bounds c.loop-step.invariant c.in_ok-tighten.ensures
