use Rattle.std.proofs.Common.{◌∙◌, ◌<◌, ◌≤◌, not, ◌&&◌, ◌==◌, sym, ap, arith}
use Rattle.std.proofs.lemmas.Bool.{lt-ltb, le-ltb}
use Rattle.order_frontier.proofs.pairs.is_earlier.Goals as goal

pub returns-then-from-invocation : goal.returns-then-from-invocation
returns-then-from-invocation c =
    let d = c.args.ok.now in
    let u = c.args.txn.now in
    let below : d.completion < u.invocation = omega (arith, c.from.ensures, c.invocation.ensures, c.if-from-invocation.true) in
    ap (λ n. not (n == c.invocation-then-from-invocation.result)) c.from-then-from-invocation.ensures
    ∙ ap (λ n. not (d.invocation == n)) c.invocation-then-from-invocation.ensures
    ∙ ap (λ b. b && not (d.invocation == u.invocation)) (sym (lt-ltb d.completion u.invocation below))

pub returns-else-from-invocation : goal.returns-else-from-invocation
returns-else-from-invocation c =
    let d = c.args.ok.now in
    let u = c.args.txn.now in
    let above : u.invocation ≤ d.completion = omega (arith, c.from.ensures, c.invocation.ensures, c.if-from-invocation.false) in
    le-ltb c.from.result c.invocation.result c.if-from-invocation.false
    ∙ ap (λ b. b && not (d.invocation == u.invocation)) (sym (le-ltb d.completion u.invocation above))
