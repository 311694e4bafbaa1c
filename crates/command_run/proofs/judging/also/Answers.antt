use Rattle.std.proofs.Common.{◌≡◌, ◌⊎◌, ◌++◌, [], Some, refl}
use Rattle.std.proofs.lemmas.Result.{err_from_is_err_and}
use Rattle.hist_types.specs.Refusals.{memory_fault}
use Rattle.block_reader.specs.Blocks.{operations_in}
use Rattle.command_run.specs.Answers.{journal_fault}
use Rattle.command_run.proofs.BlockByBlock.{block_refused, judged_after}
use Rattle.command_run.proofs.judging.also.Goals as goal

pub returns-in_err-judged : goal.returns-in_err-judged
returns-in_err-judged c =
    λ before has.
    let os = operations_in c.args.blocks.now in
    let fault = c.in_err-judged.field-0.0 in
    let was : (fault ≡ memory_fault) ⊎ (journal_fault before ≡ Some fault) = rw c.in_err-judged.was at has in
    let still : (fault ≡ memory_fault) ⊎ (journal_fault (before ++ os) ≡ Some fault) = block_refused [] before os (before ++ os) fault was refl in
    let left = err_from_is_err_and c.from_residual.result c.from_residual.ensures.1 in
    rw left.1 (rw left.2 still)

pub returns : goal.returns
returns c =
    λ before has.
    let was : c.in_ok-judged.field-0.core.events ≡ before = rw c.in_ok-judged.was at has in
    judged_after c.extended.result c.in_ok-judged.field-0.core.events before (operations_in c.args.blocks.now) was c.extended.ensures.ok c.extended.ensures.err
