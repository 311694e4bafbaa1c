use Rattle.std.proofs.Common.{[], refl, sym, subst, arith}
use Rattle.std.proofs.lemmas.Result.{IfOk-weaker, err_from_is_err_and}
use Rattle.hist_types.specs.Reading.{GivesOperations}
use Rattle.block_reader.specs.Blocks.{operations_in}
use Rattle.block_reader.proofs.Readings.{none_read}
use Rattle.block_reader.proofs.alone.blocks_of.Goals as goal

pub loop-init : goal.loop-init
loop-init c = rw (c.new-reader.ensures.start, c.in_ok-blocks.ensures) (none_read c.args.text.now 0, refl)

pub returns-in_err-read_op-clause-err : goal.returns-in_err-read_op-clause-err
returns-in_err-read_op-clause-err c =
    let given = c.in_err-read_op.ensures.on 0 [] (omega arith) c.loop.invariant.0 in
    let left = err_from_is_err_and c.from_residual-in_err-read_op.result c.from_residual-in_err-read_op.ensures.1 in
    rw left.1 (rw left.2 given)

pub returns-then-not-branch-clause-ok : goal.returns-then-not-branch-clause-ok
returns-then-not-branch-clause-ok c =
    let given : GivesOperations c.args.text.now c.read_op.new.blocks =
    rw c.if-not-branch.true at (c.in_ok-read_op.ensures.on 0 [] (omega arith) c.loop.invariant.0) in
    IfOk-weaker c.finish.result _ (λ blocks. GivesOperations c.args.text.now (operations_in blocks.items))
    (λ blocks is. subst (GivesOperations c.args.text.now) (sym is) given) c.finish.ensures.ok

pub loop-preserved : goal.loop-preserved
loop-preserved c = (rw c.if-not-branch.false at (c.in_ok-read_op.ensures.on 0 [] (omega arith) c.loop.invariant.0), c.in_ok-read_op.ensures.text)
