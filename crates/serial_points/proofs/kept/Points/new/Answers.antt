use Rattle.serial_points.proofs.KeptSteps.{all_of_none}
use Rattle.serial_points.proofs.OneMore.{points_of_none}
use Rattle.serial_points.proofs.kept.Points.new.Goals as goal

pub returns : goal.returns
returns c = λ kept are.
    all_of_none kept (record { basic = record { points = c.new.result.items; users = c.new-2.result; strays = 0 }; steps = c.in_ok-new.field-0 }) are
    (points_of_none kept c.new.result.items c.new-2.result are c.new.ensures.items c.new-2.ensures) c.in_ok-new.ensures
