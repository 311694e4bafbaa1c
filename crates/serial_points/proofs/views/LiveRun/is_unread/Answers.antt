use Rattle.std.proofs.Common.{subst}
use Rattle.std.proofs.lemmas.Bool.{not-true}
use Rattle.serial_points.specs.Clean.{AreUnread}
use Rattle.serial_points.proofs.views.LiveRun.is_unread.Goals as goal

pub returns : goal.returns
returns g c = λ passed a there.
    subst (AreUnread c.args.users.now.readers) (c.writes.ensures a there) (c.was_read.ensures (not-true c.was_read.result passed))
