use Rattle.std.proofs.Common.{◌∷◌, [], ◌++◌, arith}
use Rattle.edn_ops.proofs.FlatMaps.{one_inside, transaction_ahead}
use Rattle.edn_ops.proofs.flat_mops.other_members.Goals as goal

pub loop-closer-init : goal.loop-closer-init
loop-closer-init c = (omega arith, c.requires, λ opener members inside. (members, inside))

pub loop-closer-preserved : goal.loop-closer-preserved
loop-closer-preserved c =
    let front = c.loop-closer.invariant in
    let r = rw c.in-Some-2.is at c.in_ok-end.ensures in
    let further = r.1.further in
    let within = r.1.within in (
      omega (arith, front.0),
      within,
      λ opener members inside.
          let so_far = front.2 opener members inside in
          (so_far.0 ++ r.0 ∷ [], one_inside c.args.text.now opener so_far.0 c.loop-closer.mops.items c.flat_mop.new.mops.items c.loop-closer.at c.in-Some-2.end so_far.1 r),
    )

pub returns-in-Some-clause-reads : goal.returns-in-Some-clause-reads
returns-in-Some-clause-reads c =
    let closer = c.in-Some in
    λ at opener members opens inside.
    let so_far = c.loop-closer.invariant.2 opener members inside in
    transaction_ahead c.args.text.now at opener closer.closer so_far.0 c.loop-closer.mops.items c.loop-closer.at opens so_far.1 closer.ensures.gives

pub returns-in-Some-clause-further : goal.returns-in-Some-clause-further
returns-in-Some-clause-further c =
    let front = c.loop-closer.invariant.0 in
    let closes = c.in-Some.ensures.gives.gives [] in
    let low = closes.low in
    let some = closes.some in
    omega arith
