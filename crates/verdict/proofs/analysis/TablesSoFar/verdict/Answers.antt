use Rattle.std.proofs.Common.{Option, subst}
use Rattle.std.specs.Prelude.{IfSome}
use Rattle.serial_points.specs.KeptPoints.{KeptPoints, HasPoints}
use Rattle.verdict.proofs.analysis.TablesSoFar.verdict.Goals as goal

pub returns-in-Some : goal.returns-in-Some
returns-in-Some g c = λ events so_far.
    let kept = c.args.self.now.versions in
    let are : HasPoints events kept c.in-Some.points = subst (λ (ps : Option KeptPoints). IfSome ps (HasPoints events kept)) c.in-Some.is so_far.points in
    c.verdict_by_points.ensures events so_far are
