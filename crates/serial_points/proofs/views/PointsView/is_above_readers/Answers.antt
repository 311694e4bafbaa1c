use Rattle.std.proofs.Common.{rules, sym, ◌∙◌}
use Rattle.std.proofs.lemmas.Bool.{false≢true}
use Rattle.std.proofs.lemmas.List.Elements.{All-more}
use Rattle.key_versions.specs.declared.pending.Access.{Access}
use Rattle.std.specs.Bool.{IsTrue}
use Rattle.clean_order.specs.Accesses.{updates}
use Rattle.serial_points.specs.Passing.{IsAboveReadersOf}
use Rattle.serial_points.proofs.Listed.{all_gone}
use Rattle.serial_points.proofs.views.PointsView.is_above_readers.Goals.{else-updates-via-then-updates+else-not-is_above_readers_of, else-updates-via-else-updates}
use Rattle.serial_points.proofs.views.PointsView.is_above_readers.Goals as goal

pub loop-read-preserved : goal.loop-read-preserved
loop-read-preserved g c =
    All-more (λ (a : Access). IsTrue (updates c.args.writes.now a) → IsAboveReadersOf c.args.self.now.points c.args.self.now.users c.args.place a.version) c.args.reads.now c.loop-read.read-index (record { nil = 0; version = 0 }) c.loop-read-test.true c.loop-read.invariant
    (λ has. elim c.else-updates.branch [
      | else-updates-via-then-updates+else-not-is_above_readers_of w ↦ w.is_above_readers_of.ensures (search rules)
      | else-updates-via-else-updates w ↦ absurd (false≢true (sym w.if-updates.false ∙ c.updates.ensures ∙ has))
    ])

pub returns : goal.returns
returns g c = λ _. all_gone (λ (a : Access). IsTrue (updates c.args.writes.now a) → IsAboveReadersOf c.args.self.now.points c.args.self.now.users c.args.place a.version) c.args.reads.now c.loop-read.read-index c.loop-read-test.false c.loop-read.invariant
