use Rattle.serial_points.proofs.Bounded.{bounds_again}
use Rattle.serial_points.proofs.bounds.tighten_for.Goals as goal

pub loop-write-preserved : goal.loop-write-preserved
loop-write-preserved c =
    bounds_again c.args.points.now c.args.readers.now c.args.bounds.now c.loop-write.bounds c.tighten.new.bounds c.loop-write.invariant c.in_ok-tighten.ensures
