use Rattle.serial_points.proofs.NextPoints.{points_move}
use Rattle.serial_points.proofs.Staying.{stay_at_end, stay_at_unread_invocation}
use Rattle.serial_points.proofs.points_after_an_event.Goals as goal

pub returns-clause-ended : goal.returns-clause-ended
returns-clause-ended c = stay_at_end

pub returns-clause-unread : goal.returns-clause-unread
returns-clause-unread c = stay_at_unread_invocation

pub returns-clause-moved : goal.returns-clause-moved
returns-clause-moved c = points_move
