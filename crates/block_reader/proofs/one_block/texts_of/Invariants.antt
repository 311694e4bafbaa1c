use Rattle.std.proofs.Common.{take}
use Rattle.edn_ops.specs.SourceTexts.{AreMopTexts}
use Rattle.block_reader.proofs.one_block.texts_of.Given as goal

abbrev pub invariant-loop-mop : goal.invariant-loop-mop
invariant-loop-mop l = AreMopTexts l.texts.items (take l.mop-index l.mops)
