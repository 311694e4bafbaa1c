use Rattle.serial_points.proofs.Bounded.{bounds_again}
use Rattle.serial_points.proofs.bounds.tighten_at.Goals as goal

pub loop-version-preserved : goal.loop-version-preserved
loop-version-preserved c =
    bounds_again c.args.points.now c.args.readers.now c.args.bounds.now c.loop-version.bounds c.tighten.new.bounds c.loop-version.invariant c.in_ok-tighten.ensures
