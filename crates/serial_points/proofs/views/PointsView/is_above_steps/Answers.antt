use Rattle.std.proofs.Common.{rules, List, All, subst}
use Rattle.std.proofs.lemmas.List.Elements.{All-more}
use Rattle.key_versions.specs.declared.pending.Access.{Access}
use Rattle.serial_points.specs.Stepping.{IsAboveStepsTo}
use Rattle.serial_points.proofs.Listed.{all_gone}
use Rattle.serial_points.proofs.views.PointsView.is_above_steps.Goals as goal

pub loop-write-preserved : goal.loop-write-preserved
loop-write-preserved g c =
    let writes = c.writes-writes.result.now in
    All-more (IsAboveStepsTo c.args.self.now c.args.place writes) writes c.loop-write.write-index (record { nil = 0; version = 0 }) c.loop-write-test.true c.loop-write.invariant
    (c.is_above_steps_to.ensures (search rules))

pub returns : goal.returns
returns g c = λ _ a there.
    let writes = c.writes-writes.result.now in
    subst (λ (xs : List Access). All (IsAboveStepsTo c.args.self.now c.args.place xs) xs) (c.writes-writes.ensures a there)
    (all_gone (IsAboveStepsTo c.args.self.now c.args.place writes) writes c.loop-write.write-index c.loop-write-test.false c.loop-write.invariant)
