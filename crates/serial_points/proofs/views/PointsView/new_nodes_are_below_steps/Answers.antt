use Rattle.std.proofs.Common.{rules}
use Rattle.std.proofs.lemmas.List.Elements.{All-more}
use Rattle.key_versions.specs.declared.pending.Access.{Access}
use Rattle.serial_points.specs.Stepping.{WritersPassSteps}
use Rattle.serial_points.proofs.Listed.{all_gone}
use Rattle.serial_points.proofs.views.PointsView.new_nodes_are_below_steps.Goals as goal

pub loop-read-preserved : goal.loop-read-preserved
loop-read-preserved g c =
    let holds = (λ (a : Access). WritersPassSteps c.args.self.now c.args.place a.version) in
    All-more holds c.args.reads.now c.loop-read.read-index (record { nil = 0; version = 0 }) c.loop-read-test.true c.loop-read.invariant
    (c.read_makes_no_node.ensures (search rules))

pub returns : goal.returns
returns g c = λ _.
    let holds = (λ (a : Access). WritersPassSteps c.args.self.now c.args.place a.version) in
    all_gone holds c.args.reads.now c.loop-read.read-index c.loop-read-test.false c.loop-read.invariant
