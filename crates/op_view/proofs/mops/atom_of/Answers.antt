use Rattle.op_block.specs.MopTexts.{atom_in}
use Rattle.op_view.proofs.mops.atom_of.Goals as goal

pub returns : goal.returns
returns c = c.of.ensures (atom_in c.args.bytes.now) c.requires
