use Rattle.std.proofs.Common.{Option, subst}
use Rattle.std.specs.Prelude.{IfSome}
use Rattle.serial_points.specs.KeptPoints.{KeptPoints}
use Rattle.verdict.specs.Analysed.{AwaitsEvent}
use Rattle.verdict.proofs.changes.points_after.Goals as goal

pub returns-in-Some : goal.returns-in-Some
returns-in-Some g c = λ events event before is.
    c.after.ensures events event before
    (subst (λ (ps : Option KeptPoints). IfSome ps (AwaitsEvent events event before c.args.versions.now c.args.txns.now c.args.place)) c.in-Some.is is)
