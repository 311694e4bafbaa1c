use Rattle.std.proofs.Common.{Option, subst}
use Rattle.std.specs.Prelude.{IfSome}
use Rattle.hist_types.specs.Reports.{AreFindings, no_findings}
use Rattle.hist_types.specs.Transactions.{transactions_of}
use Rattle.serial_points.specs.KeptPoints.{KeptPoints, HasPoints}
use Rattle.verdict.specs.Analysed.{Analysed, events_of_blocks}
use Rattle.verdict.proofs.analysis.Analysis.has_points.Goals as goal

pub returns-in-Some : goal.returns-in-Some
returns-in-Some g c =
    let events = events_of_blocks c.self.inside.blocks.items in
    let kept = c.self.inside.tables.versions in
    let are : HasPoints events kept c.in-Some.points = subst (λ (ps : Option KeptPoints). IfSome ps (HasPoints events kept)) c.in-Some.is c.self.invariant.points in
    subst (λ (a : Analysed). AreFindings a.keys (transactions_of a.events) no_findings) c.self.view_is
    (c.find_nothing.ensures.findings events kept are)
