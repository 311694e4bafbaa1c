use Rattle.std.proofs.Common.{rules}
use Rattle.std.proofs.lemmas.List.Elements.{All-more}
use Rattle.serial_points.specs.Falls.{PassesUnlessOk}
use Rattle.serial_points.proofs.Listed.{all_gone}
use Rattle.serial_points.proofs.views.PointsView.all_pass_unless_ok.Goals as goal

pub loop-place-preserved : goal.loop-place-preserved
loop-place-preserved g c =
    All-more (PassesUnlessOk c.args.self.now) c.args.places.now c.loop-place.place-index 0 c.loop-place-test.true c.loop-place.invariant
    (c.passes_unless_ok.ensures (search rules))

pub returns : goal.returns
returns g c = λ _.
    all_gone (PassesUnlessOk c.args.self.now) c.args.places.now c.loop-place.place-index c.loop-place-test.false c.loop-place.invariant
