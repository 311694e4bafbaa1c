use Rattle.std.proofs.Common.{rules, All, subst}
use Rattle.std.proofs.lemmas.List.Elements.{All-more}
use Rattle.serial_points.specs.Clean.{IsClean}
use Rattle.serial_points.proofs.Listed.{all_gone}
use Rattle.serial_points.proofs.views.PointsView.reads_clean.Goals as goal

pub loop-read-preserved : goal.loop-read-preserved
loop-read-preserved g c =
    let p = c.args.self.now in
    All-more (IsClean p.run.txns p.run.accesses p.users.writers c.writes-own.result.now) c.reads-reads.result.now c.loop-read.read-index (record { nil = 0; version = 0 }) c.loop-read-test.true c.loop-read.invariant
    (c.is_clean.ensures (search rules))

pub returns : goal.returns
returns g c = λ _ a there.
    let p = c.args.self.now in
    let own = c.writes-own.result.now in
    let reads = c.reads-reads.result.now in
    subst (All (IsClean p.run.txns p.run.accesses p.users.writers a.writes)) (c.reads-reads.ensures a there)
    (subst (λ writes. All (IsClean p.run.txns p.run.accesses p.users.writers writes) reads) (c.writes-own.ensures a there)
    (all_gone (IsClean p.run.txns p.run.accesses p.users.writers own) reads c.loop-read.read-index c.loop-read-test.false c.loop-read.invariant))
