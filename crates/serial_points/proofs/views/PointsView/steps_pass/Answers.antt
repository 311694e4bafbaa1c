use Rattle.std.proofs.Common.{rules, subst}
use Rattle.serial_points.specs.Stepping.{BelowReadSteps, NewNodesBelowSteps}
use Rattle.serial_points.proofs.views.PointsView.steps_pass.Goals as goal

pub returns : goal.returns
returns g c = λ passed.
    let p = c.args.self.now in
    let place = c.args.place in
    record {
      own = c.is_above_steps.ensures (search rules);
      reads = λ a there. subst (BelowReadSteps p place) (c.reads-reads.ensures a there) (c.is_below_read_steps.ensures (search rules));
      writes = c.is_below_if_node.ensures (search rules);
      new_nodes = λ a there. subst (NewNodesBelowSteps p place) (c.reads-reads.ensures a there) (c.new_nodes_are_below_steps.ensures (search rules));
      fallen = c.falls_are_above_steps.ensures (search rules);
      fresh = c.fresh_steps_rise.ensures passed;
    }
