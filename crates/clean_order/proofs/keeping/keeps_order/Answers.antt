use Rattle.std.proofs.Common.{length, ap, arith}
use Rattle.dep_edges.specs.Histories.{History}
use Rattle.clean_order.proofs.Timely.{all_in_time}
use Rattle.clean_order.proofs.keeping.keeps_order.Goals as goal

pub returns : goal.returns
returns c = λ _.
    let d : History = c.args.deps.now in
    let same = ap (λ (h : History). length h.txns) c.history-history.ensures.history in
    all_in_time d.txns c.args.starts.now c.args.commits.now c.args.ends.now c.loop-place.highest c.loop-place.before c.loop-place.place c.history-history.ensures.kept c.loop-place.invariant
    (omega (arith, c.loop-place-test.false, ap length c.txns-place-end.ensures.value, same))
