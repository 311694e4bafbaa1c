use Rattle.std.proofs.Common.{rules}
use Rattle.std.proofs.lemmas.List.Elements.{All-more}
use Rattle.serial_points.specs.Stepping.{IsLowerUnlessLeftOut}
use Rattle.serial_points.proofs.Listed.{all_gone}
use Rattle.serial_points.proofs.views.PointsView.are_lower_or_left_out.Goals as goal

pub loop-other-preserved : goal.loop-other-preserved
loop-other-preserved g c =
    let holds = IsLowerUnlessLeftOut c.args.self.now c.args.place c.args.version in
    All-more holds c.args.others.now c.loop-other.other-index 0 c.loop-other-test.true c.loop-other.invariant
    (c.is_lower_or_left_out.ensures (search rules))

pub returns : goal.returns
returns g c = λ _.
    let holds = IsLowerUnlessLeftOut c.args.self.now c.args.place c.args.version in
    all_gone holds c.args.others.now c.loop-other.other-index c.loop-other-test.false c.loop-other.invariant
