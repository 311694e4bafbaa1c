use Rattle.std.proofs.Common.{rules}
use Rattle.std.proofs.lemmas.List.Elements.{All-more}
use Rattle.key_versions.specs.declared.pending.Access.{Access}
use Rattle.serial_points.specs.Passing.{IsAboveReadersOf}
use Rattle.serial_points.proofs.Listed.{all_gone}
use Rattle.serial_points.proofs.views.PointsView.is_above_nil_readers.Goals as goal

pub loop-write-preserved : goal.loop-write-preserved
loop-write-preserved g c =
    All-more (λ (a : Access). IsAboveReadersOf c.args.self.now.points c.args.self.now.users c.args.place a.nil) c.args.writes.now c.loop-write.write-index (record { nil = 0; version = 0 }) c.loop-write-test.true c.loop-write.invariant
    (c.is_above_readers_of.ensures (search rules))

pub returns : goal.returns
returns g c = λ _. all_gone (λ (a : Access). IsAboveReadersOf c.args.self.now.points c.args.self.now.users c.args.place a.nil) c.args.writes.now c.loop-write.write-index c.loop-write-test.false c.loop-write.invariant
