use Rattle.block_reader.proofs.Rests.{rest_alone, rest_fails}
use Rattle.block_reader.proofs.rest.blocks_of_rest.Goals as goal

pub returns-in-Ok-clause-ok : goal.returns-in-Ok-clause-ok
returns-in-Ok-clause-ok c = λ front long. rest_alone c.parts_read_alone.ensures.rest front c.args.rest.now c.args.offset _ long c.in-Ok.ensures.ok

pub returns-in-Err-clause-err : goal.returns-in-Err-clause-err
returns-in-Err-clause-err c =
    λ front long. rest_fails c.parts_read_alone.ensures.rest front c.args.rest.now c.args.offset _ _ long c.in-Err.ensures.err c.fault_from.ensures
