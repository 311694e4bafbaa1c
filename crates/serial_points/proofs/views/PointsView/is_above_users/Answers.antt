use Rattle.std.proofs.Common.{All, subst}
use Rattle.serial_points.specs.Stepping.{IsLowerUnlessLeftOut}
use Rattle.serial_points.proofs.views.PointsView.is_above_users.Goals as goal

pub returns-then-is_above_readers_of : goal.returns-then-is_above_readers_of
returns-then-is_above_readers_of g c = λ passed. record {
  readers = c.is_above_readers_of.ensures c.if-is_above_readers_of.true;
  installers = subst (All (IsLowerUnlessLeftOut c.args.self.now c.args.place c.args.version)) c.writers.ensures (c.are_lower_or_left_out.ensures passed);
}
