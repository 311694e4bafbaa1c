use Rattle.std.proofs.Common.{ℕ, List, subst, sym}
use Rattle.block_reader.specs.OneBlock.{HasReadTooMany}
use Rattle.block_reader.proofs.one_block.block_of_text.Goals as goal

pub read_rest-requires : goal.read_rest-requires
read_rest-requires c =
    let given : HasReadTooMany c.args.text.now c.fill.new.reader = rw c.if-not-branch.true at c.in_ok-fill.ensures in
    subst (λ (text : List ℕ). HasReadTooMany text c.fill.new.reader) (sym given.1.0.same) given
