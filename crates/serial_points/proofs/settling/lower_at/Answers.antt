use Rattle.std.proofs.Common.{subst}
use Rattle.serial_points.specs.Bounds.{FloorsWrites}
use Rattle.serial_points.proofs.settling.lower_at.Goals as goal

pub returns-clause-floored : goal.returns-clause-floored
returns-clause-floored g c = λ a there.
    let floors = c.lower_for.new.floors in
    subst (λ point. FloorsWrites floors point a.writes) c.point_of.ensures
    (subst (λ writes. FloorsWrites floors c.point_of.result writes) (c.writes.ensures a there) c.in_ok-lower_for.ensures.lowered)
