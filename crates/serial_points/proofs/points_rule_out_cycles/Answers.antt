use Rattle.clean_order.proofs.Points.{nothing_found}
use Rattle.serial_points.proofs.points_rule_out_cycles.Goals as goal

pub returns : goal.returns
returns c = nothing_found
