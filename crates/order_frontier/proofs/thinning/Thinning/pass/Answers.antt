use Rattle.std.proofs.Common.{◌≤◌, sym, subst, refl, length, take}
use mathlib.Core.List.{IsSuffix}
use Rattle.order_frontier.specs.Predecessors.{last_realtime}
use Rattle.order_frontier.specs.Thinnings.{Thinned, IsOfSame}
use Rattle.order_frontier.proofs.Lists.{on_err}
use Rattle.order_frontier.proofs.Ranges.{shared_after}
use Rattle.order_frontier.proofs.Thinnings.{same_thinning}
use Rattle.order_frontier.proofs.thinning.Thinning.pass.Goals as goal

pub returns-in_err-passed-clause-err : goal.returns-in_err-passed-clause-err
returns-in_err-passed-clause-err c =
    let t = c.self.inside in
    let old : Thinned = record { recent = t.moving.recent.items; last = t.moving.last; order = t.order } in
    let next : Thinned = record { recent = c.complete.new.self.recent.items; last = c.complete.new.self.last; order = t.order } in
    on_err c.from_residual.result
    (subst (λ s. IsOfSame s next) c.self.view_is (same_thinning old next c.in_err-passed.ensures.recent_kept c.in_err-passed.ensures.last_kept refl))

pub invariant_of-self-2 : goal.invariant_of-self-2
invariant_of-self-2 c =
    let t = c.self.inside in
    let recent = c.complete.new.self.recent.items in
    let list = last_realtime t.order in
    subst (λ n. (n ≤ length recent) × IsSuffix (take n recent) list) (sym c.saturating_sub-self-inside.ensures)
    (shared_after t.moving.recent.items recent list c.args.done t.shared c.in_ok-passed.passed c.in_ok-passed.ensures.passed c.in_ok-passed.ensures.recent c.self.invariant)
