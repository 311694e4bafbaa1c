use Rattle.std.proofs.Common.{subst}
use Rattle.serial_points.specs.Passing.{AreUnboundedReaders}
use Rattle.serial_points.proofs.views.PointsView.is_above_readers_of.Goals as goal

pub returns : goal.returns
returns g c = λ passed. (
  c.unbounded_readers.result.now,
  subst (λ point. AreUnboundedReaders c.args.self.now.users c.args.version point c.unbounded_readers.result.now) c.point-point.ensures c.unbounded_readers.ensures,
  c.are_all_lower.ensures passed,
)
