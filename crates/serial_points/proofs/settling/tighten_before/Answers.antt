use Rattle.serial_points.proofs.Bounded.{bounds_again}
use Rattle.serial_points.proofs.settling.tighten_before.Goals as goal

pub loop-write-preserved : goal.loop-write-preserved
loop-write-preserved g c =
    bounds_again c.args.points.now c.args.readers.now c.tighten_for.new.bounds c.loop-write.bounds c.tighten_at.new.bounds c.loop-write.invariant c.in_ok-tighten_at.ensures
