use Rattle.std.proofs.Common.{arith}
use Rattle.clean_order.proofs.Timely.{goes_on}
use Rattle.clean_order.proofs.keeping.highest_before.Goals as goal

pub returns-clause-most : goal.returns-clause-most
returns-clause-most c = λ before.
    let shown = c.loop-k.invariant.0 before in
    let on = goes_on c.args.ends.now c.args.commits.now c.args.index c.loop-k.k (omega (arith, c.loop-k-test.false)) in
    omega (arith, shown, on)
