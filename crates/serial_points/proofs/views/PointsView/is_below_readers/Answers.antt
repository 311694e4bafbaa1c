use Rattle.std.proofs.Common.{rules, subst}
use Rattle.std.proofs.lemmas.List.Elements.{All-more}
use Rattle.key_versions.specs.declared.pending.Access.{Access}
use Rattle.serial_points.specs.Passing.{AllHigher}
use Rattle.serial_points.specs.Users.{places_at}
use Rattle.serial_points.proofs.Listed.{all_gone}
use Rattle.serial_points.proofs.views.PointsView.is_below_readers.Goals as goal

pub loop-write-preserved : goal.loop-write-preserved
loop-write-preserved g c =
    All-more (λ (a : Access). AllHigher c.args.self.now.points (places_at c.args.self.now.users.readers a.version) c.args.place) c.args.writes.now c.loop-write.write-index (record { nil = 0; version = 0 }) c.loop-write-test.true c.loop-write.invariant
    (subst (λ places. AllHigher c.args.self.now.points places c.args.place) c.readers.ensures (c.are_all_higher.ensures (search rules)))

pub returns : goal.returns
returns g c = λ _. all_gone (λ (a : Access). AllHigher c.args.self.now.points (places_at c.args.self.now.users.readers a.version) c.args.place) c.args.writes.now c.loop-write.write-index c.loop-write-test.false c.loop-write.invariant
