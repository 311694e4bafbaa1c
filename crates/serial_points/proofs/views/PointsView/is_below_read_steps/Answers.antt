use Rattle.std.proofs.Common.{rules, All, subst}
use Rattle.std.proofs.lemmas.List.Elements.{All-more}
use Rattle.key_versions.specs.declared.pending.Access.{Access}
use Rattle.serial_points.specs.Stepping.{BelowInstallers}
use Rattle.serial_points.specs.Users.{places_at}
use Rattle.serial_points.proofs.Listed.{all_gone}
use Rattle.serial_points.proofs.views.PointsView.is_below_read_steps.Goals as goal

pub loop-read-preserved : goal.loop-read-preserved
loop-read-preserved g c =
    let below = All (BelowInstallers c.args.self.now c.args.place) in
    All-more (λ (a : Access). below (places_at c.args.self.now.run.lists.later a.version)) c.args.reads.now c.loop-read.read-index (record { nil = 0; version = 0 }) c.loop-read-test.true c.loop-read.invariant
    (subst below c.later.ensures (c.is_below_all_installers.ensures (search rules)))

pub returns : goal.returns
returns g c = λ _.
    let below = All (BelowInstallers c.args.self.now c.args.place) in
    all_gone (λ (a : Access). below (places_at c.args.self.now.run.lists.later a.version)) c.args.reads.now c.loop-read.read-index c.loop-read-test.false c.loop-read.invariant
