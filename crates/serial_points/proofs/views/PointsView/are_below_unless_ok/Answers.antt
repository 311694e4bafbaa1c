use Rattle.std.proofs.Common.{rules}
use Rattle.std.proofs.lemmas.List.Elements.{All-more}
use Rattle.serial_points.specs.Stepping.{IsBelowUnlessOk}
use Rattle.serial_points.proofs.Listed.{all_gone}
use Rattle.serial_points.proofs.views.PointsView.are_below_unless_ok.Goals as goal

pub loop-place-preserved : goal.loop-place-preserved
loop-place-preserved g c =
    let holds = IsBelowUnlessOk c.args.self.now in
    All-more holds c.args.places.now c.loop-place.place-index 0 c.loop-place-test.true c.loop-place.invariant
    (c.is_below_unless_ok.ensures (search rules))

pub returns : goal.returns
returns g c = λ _.
    let holds = IsBelowUnlessOk c.args.self.now in
    all_gone holds c.args.places.now c.loop-place.place-index c.loop-place-test.false c.loop-place.invariant
