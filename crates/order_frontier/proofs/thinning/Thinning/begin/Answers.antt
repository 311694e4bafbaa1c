use Rattle.std.proofs.Common.{◌≡◌, ◌∙◌, ◌++◌, ◌∷◌, [], ap, sym, subst}
use Rattle.order_frontier.specs.Latest.{before_next}
use Rattle.order_frontier.specs.Thinnings.{Thinned, IsThinningOf, with_begun}
use Rattle.order_frontier.proofs.Thinnings.{thinning_begun}
use Rattle.order_frontier.proofs.thinning.Thinning.begin.Goals as goal

pub returns-clause-next : goal.returns-clause-next
returns-clause-next c =
    let u = c.args.txn.now in
    let t = c.self.inside in
    let old : Thinned = record { recent = t.moving.recent.items; last = t.moving.last; order = t.order } in
    let next : Thinned = record { recent = t.moving.recent.items; last = t.moving.last; order = c.push.new.self } in
    let begun : next ≡ with_begun old u =
    ap (λ o. record { recent = t.moving.recent.items; last = t.moving.last; order = o })
    (c.in_ok-push.ensures.ok
    ∙ ap (λ p. t.order ++ before_next t.moving.recent.items t.moving.last p c.invocation.result ∷ []) c.process.ensures
    ∙ ap (λ n. t.order ++ before_next t.moving.recent.items t.moving.last u.process n ∷ []) c.invocation.ensures) in
    λ events e is by. subst (IsThinningOf (events ++ e ∷ [])) (sym begun) (thinning_begun events e old u (subst (IsThinningOf events) (sym c.self.view_is) is) by)
