use Rattle.std.proofs.Common.{rules, subst}
use Rattle.std.proofs.lemmas.List.Elements.{All-more}
use Rattle.key_versions.specs.declared.pending.Access.{Access}
use Rattle.serial_points.specs.Passing.{AllLower}
use Rattle.serial_points.specs.Users.{places_at}
use Rattle.serial_points.proofs.Listed.{all_gone}
use Rattle.serial_points.proofs.views.PointsView.is_above_writers.Goals as goal

pub loop-read-preserved : goal.loop-read-preserved
loop-read-preserved g c =
    All-more (λ (a : Access). AllLower c.args.self.now.points (places_at c.args.self.now.users.writers a.version) c.args.place) c.args.reads.now c.loop-read.read-index (record { nil = 0; version = 0 }) c.loop-read-test.true c.loop-read.invariant
    (subst (λ places. AllLower c.args.self.now.points places c.args.place) c.writers.ensures (c.are_all_lower.ensures (search rules)))

pub returns : goal.returns
returns g c = λ _. all_gone (λ (a : Access). AllLower c.args.self.now.points (places_at c.args.self.now.users.writers a.version) c.args.place) c.args.reads.now c.loop-read.read-index c.loop-read-test.false c.loop-read.invariant
