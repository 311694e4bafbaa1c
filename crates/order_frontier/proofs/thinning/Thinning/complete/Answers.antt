use Rattle.std.proofs.Common.{◌≡◌, ◌∙◌, Some, sym}
use Rattle.order_frontier.specs.Completions.{completed_of}
use Rattle.order_frontier.proofs.Lists.{on_oks}
use Rattle.order_frontier.proofs.Thinnings.{thinning_completed}
use Rattle.order_frontier.proofs.thinning.Thinning.complete.Goals as goal

pub returns-in-Some-clause-next : goal.returns-in-Some-clause-next
returns-in-Some-clause-next c =
    let t = c.args.txn.now in
    let d = c.in-Some.done in
    let ok : completed_of t ≡ Some d = sym c.in_ok-done.ensures ∙ c.in-Some.is in
    on_oks c.pass.result
    (λ recent last events e is completed. thinning_completed events e c.args.self.now c.pass.new.self t d ok recent last c.pass.ensures.order is completed)
    c.pass.ensures.recent c.pass.ensures.last
