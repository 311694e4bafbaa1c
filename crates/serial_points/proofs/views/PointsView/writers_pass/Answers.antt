use Rattle.std.proofs.Common.{rules, All, subst}
use Rattle.std.proofs.lemmas.List.Elements.{All-more}
use Rattle.key_versions.specs.declared.pending.Access.{Access}
use Rattle.serial_points.specs.Falls.{PassesUnlessOk}
use Rattle.serial_points.specs.Users.{places_at}
use Rattle.serial_points.proofs.Listed.{all_gone}
use Rattle.serial_points.proofs.views.PointsView.writers_pass.Goals as goal

pub loop-read-preserved : goal.loop-read-preserved
loop-read-preserved g c =
    let pass = PassesUnlessOk c.args.self.now in
    All-more (λ (a : Access). All pass (places_at c.args.self.now.users.writers a.version)) c.args.reads.now c.loop-read.read-index (record { nil = 0; version = 0 }) c.loop-read-test.true c.loop-read.invariant
    (subst (λ places. All pass places) c.writers.ensures (c.all_pass_unless_ok.ensures (search rules)))

pub returns : goal.returns
returns g c = λ _.
    let pass = PassesUnlessOk c.args.self.now in
    all_gone (λ (a : Access). All pass (places_at c.args.self.now.users.writers a.version)) c.args.reads.now c.loop-read.read-index c.loop-read-test.false c.loop-read.invariant
