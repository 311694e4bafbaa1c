use Rattle.std.proofs.Common.{◌∷◌, [], ◌++◌, arith}
use Rattle.std.proofs.lemmas.Result.{err_from_is_err_and}
use Rattle.edn_ops.proofs.FlatMaps.{one_inside, space_here}
use Rattle.edn_ops.proofs.flat_mops.printed_mops.Goals as goal

pub returns-in_err-next-clause-reads : goal.returns-in_err-next-clause-reads
returns-in_err-next-clause-reads c =
    let p = err_from_is_err_and c.from_residual.result c.from_residual.ensures.1 in
    rw (p.1, p.2) (c.in_err-next.ensures.reads c.loop-next.end c.loop-next.invariant.1)

pub loop-next-preserved : goal.loop-next-preserved
loop-next-preserved c =
    let text = c.args.text.now in
    let front = c.loop-next.invariant in
    let r = rw c.in-Some.is at (c.in_ok-next.ensures.reads c.loop-next.end front.1) in
    let within = rw c.in-Some.is at c.in_ok-next.ensures.within in
    let further = r.1.further in (
      omega (arith, front.0),
      space_here text c.in-Some.next within c.if-text-end-ne32.false,
      λ opener members inside.
          let so_far = front.2 opener members inside in
          (so_far.0 ++ r.0 ∷ [], one_inside text opener so_far.0 c.loop-next.mops.items c.printed_mop.new.mops.items c.loop-next.end c.in-Some.next so_far.1 r),
    )

pub returns-then-text-end-ne32-clause-reads : goal.returns-then-text-end-ne32-clause-reads
returns-then-text-end-ne32-clause-reads c opener members inside =
    let front = c.loop-next.invariant in
    let r = rw c.in-Some.is at (c.in_ok-next.ensures.reads c.loop-next.end front.1) in
    let so_far = front.2 opener members inside in
    (so_far.0 ++ r.0 ∷ [], one_inside c.args.text.now opener so_far.0 c.loop-next.mops.items c.printed_mop.new.mops.items c.loop-next.end c.in-Some.next so_far.1 r)

pub returns-clause-reads : goal.returns-clause-reads
returns-clause-reads c opener members inside =
    let same = rw c.in_default.is at (c.in_ok-next.ensures.reads c.loop-next.end c.loop-next.invariant.1) in
    rw same (c.loop-next.invariant.2 opener members inside)
