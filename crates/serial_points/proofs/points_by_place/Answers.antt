use Rattle.serial_points.proofs.ByPlace.{list_points, look_ups_suffice}
use Rattle.serial_points.proofs.points_by_place.Goals as goal

pub returns-clause-listed : goal.returns-clause-listed
returns-clause-listed c = list_points

pub returns-clause-above : goal.returns-clause-above
returns-clause-above c = look_ups_suffice
