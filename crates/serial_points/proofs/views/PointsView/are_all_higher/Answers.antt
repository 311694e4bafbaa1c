use Rattle.std.proofs.Common.{rules}
use Rattle.std.proofs.lemmas.List.Elements.{All-more}
use Rattle.clean_order.specs.AtVersions.{IsLowerIfOther}
use Rattle.serial_points.proofs.Listed.{all_gone}
use Rattle.serial_points.proofs.views.PointsView.are_all_higher.Goals as goal

pub loop-other-preserved : goal.loop-other-preserved
loop-other-preserved g c =
    All-more (λ other. IsLowerIfOther c.args.self.now.points c.args.place other) c.args.places.now c.loop-other.other-index (0) c.loop-other-test.true c.loop-other.invariant
    (c.is_lower_if_other.ensures (search rules))

pub returns : goal.returns
returns g c = λ _. all_gone (λ other. IsLowerIfOther c.args.self.now.points c.args.place other) c.args.places.now c.loop-other.other-index c.loop-other-test.false c.loop-other.invariant
