use Rattle.std.proofs.Common.{take}
use Rattle.std.proofs.lemmas.List.{take_more}
use Rattle.block_reader.proofs.CallTexts.{one_more_text}
use Rattle.block_reader.proofs.one_block.texts_of.Goals as goal

pub loop-mop-preserved : goal.loop-mop-preserved
loop-mop-preserved c =
    let mops = c.args.mops.now in
    let index = c.loop-mop.mop-index in
    let mop = c.mop-item.result in
    rw (c.in_ok-push.ensures.items, take_more mops index mop c.loop-mop-test.true, ← c.mop-item.is)
    (one_more_text c.loop-mop.texts.items (take index mops) c.text.result mop c.loop-mop.invariant c.text.ensures)
