use Rattle.std.proofs.Common.{◌∙◌, [], ◌∷◌, ◌++◌}
use Rattle.std.proofs.lemmas.Result.{err_from_is_err_and}
use Rattle.edn_ops.specs.Reader.{HasRead, HasEnded}
use Rattle.block_reader.proofs.OneBlock.{too_many_placed, still_too_many}
use Rattle.block_reader.proofs.Readings.{one_placed, fault_placed}
use Rattle.block_reader.proofs.one_block.read_rest.Goals as goal

pub returns-in_err-next_op-clause-err : goal.returns-in_err-next_op-clause-err
returns-in_err-next_op-clause-err c =
    let h = c.loop.invariant.1 in
    let given = fault_placed c.args.reader.now.state.text c.loop.reader c.next_op.new.self c.loop.invariant.0 c.in_err-next_op.field-0.0 h (c.in_err-next_op.ensures.next h.0.going) in
    let left = err_from_is_err_and c.from_residual.result c.from_residual.ensures.1 in
    rw left.1 (rw left.2 given)

pub returns-in_default-clause-ok : goal.returns-in_default-clause-ok
returns-in_default-clause-ok c =
    let h = c.loop.invariant.1 in
    let ended : HasEnded c.loop.reader c.next_op.new.self = rw c.in_default.is at (c.in_ok-next_op.ensures.next h.0.going) in
    too_many_placed c.args.reader.now.state.text c.loop.reader c.next_op.new.self c.loop.invariant.0 h c.loop.invariant.2 ended

pub loop-preserved : goal.loop-preserved
loop-preserved c =
    let old = c.loop.reader in
    let new = c.next_op.new.self in
    let shape = c.in-Some.field-0 in
    let os = c.loop.invariant.0 in
    let h = c.loop.invariant.1 in
    let read : HasRead old shape new = rw c.in-Some.is at (c.in_ok-next_op.ensures.next h.0.going) in (
      os ++ read.read ∷ [],
      one_placed c.args.reader.now.state.text old new shape os h read (c.in_ok-next_op.ensures.text ∙ h.0.same),
      still_too_many os read.read c.loop.invariant.2,
    )
