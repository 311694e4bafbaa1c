use Rattle.std.proofs.Common.{◌≡◌, ◌⊎◌, ℕ, ◌+◌, ◌<◌, List, ◌++◌, [], Some, length, drop, get_or, refl, sym, ◌∙◌, ap, subst}
use Rattle.std.proofs.lemmas.Result.{err_from_is_err_and}
use Rattle.hist_types.specs.Journal.{first_broken}
use Rattle.hist_types.specs.Refusals.{memory_fault}
use Rattle.hist_types.specs.Transactions.{transactions_of}
use Rattle.op_block.specs.Contents.{Contents, operations_of}
use Rattle.command_run.specs.Answers.{journal_fault}
use Rattle.block_reader.specs.Blocks.{operations_in}
use Rattle.command_run.proofs.BlockByBlock.{HasTaken, block_taken, block_refused, kept-append}
use Rattle.report_text.proofs.Lists.{drop_item}
use Rattle.command_run.proofs.judged.Judged.extended.Goals as goal

-- the blocks from here on are this one and the others
from_here : (blocks : List Contents) (index : ℕ) (block : Contents) → index < length blocks → block ≡ get_or blocks index block
    → operations_in (drop index blocks) ≡ operations_of block ++ operations_in (drop (index + 1) blocks)
from_here blocks index block within is = ap operations_in (drop_item blocks index block within is)

pub loop-block-init : goal.loop-block-init
loop-block-init c =
    let judged = c.args.self in (
      record {
        split = refl;
        broken = sym (kept-append [] judged.core.events (operations_in c.args.blocks.now) judged.kept);
        kept = judged.kept;
      },
      judged.paired,
    )

pub returns-in_err-core-clause-err : goal.returns-in_err-core-clause-err
returns-in_err-core-clause-err c =
    let all = c.args.self.core.events ++ operations_in c.args.blocks.now in
    let block = operations_of c.block-item.result in
    let events = c.loop-block.core.events in
    let rest = operations_in (drop (c.loop-block.block-index + 1) c.args.blocks.now) in
    let here = from_here c.args.blocks.now c.loop-block.block-index c.block-item.result c.loop-block-test.true c.block-item.is in
    let fault = c.in_err-core.field-0.0 in
    let refused : (fault ≡ memory_fault) ⊎ (journal_fault all ≡ Some fault) =
    block_refused events block rest all fault c.in_err-core.ensures.err (sym (ap (first_broken events) here) ∙ c.loop-block.invariant.0.broken) in
    let left = err_from_is_err_and c.from_residual.result c.from_residual.ensures.1 in
    rw left.1 (rw left.2 refused)

pub loop-block-preserved : goal.loop-block-preserved
loop-block-preserved c =
    let all = c.args.self.core.events ++ operations_in c.args.blocks.now in
    let block = operations_of c.block-item.result in
    let events = c.loop-block.core.events in
    let rest = operations_in (drop (c.loop-block.block-index + 1) c.args.blocks.now) in
    let here = from_here c.args.blocks.now c.loop-block.block-index c.block-item.result c.loop-block-test.true c.block-item.is in
    let taken : HasTaken events (block ++ rest) all = subst (λ os. HasTaken events os all) here c.loop-block.invariant.0 in
    let behind = c.in_ok-core.ensures.ok in
    let paired = c.in_ok-pair_block.ensures events (sym c.events-start.ensures) c.loop-block.invariant.1 in
    (block_taken events block rest all _ taken behind.0 behind.1, paired ∙ ap transactions_of (sym behind.1))
