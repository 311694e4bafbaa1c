use Rattle.std.proofs.Common.{◌≡◌, Some, length, ap, arith, subst}
use Rattle.std.specs.Prelude.{slice_get}
use Rattle.std.proofs.lemmas.Option.{slice_get_within}
use Rattle.key_versions.specs.TxnAccesses.{TxnAccesses}
use Rattle.clean_order.proofs.Accesses.{has_place, kept_count, part_at}
use Rattle.serial_points.specs.Views.{LiveRun}
use Rattle.serial_points.proofs.views.LiveRun.reads.Goals as goal

pub reads-requires : goal.reads-requires
reads-requires g c = has_place c.self.inside.txns.now c.self.inside.versions.now c.args.place c.self.invariant c.if-place-self.true

pub returns-then-place-self : goal.returns-then-place-self
returns-then-place-self g c =
    subst (λ (r : LiveRun). (a : TxnAccesses) → slice_get r.accesses c.args.place ≡ Some a → c.reads.result.now ≡ a.reads) c.self.view_is
    (λ a there. part_at (λ (x : TxnAccesses). x.reads) c.self.inside.versions.now.accesses c.args.place a c.reads.result.now c.reads.ensures there)

pub returns-else-place-self : goal.returns-else-place-self
returns-else-place-self g c = λ a there.
    let within = slice_get_within c.args.self.now.accesses c.args.place a there in
    let same = ap (λ (r : LiveRun). length r.accesses) c.self.view_is in
    let count = kept_count c.self.inside.txns.now c.self.inside.versions.now c.self.invariant in
    let past = c.if-place-self.false in
    absurd (omega (arith, within, same, count, past))
