use Rattle.std.proofs.Common.{refl}
use Rattle.op_block.proofs.SpelledMops.{is_atom, write_by}
use Rattle.op_view.proofs.mops.Mop.w.Goals as goal

pub invariant_of-result : goal.invariant_of-result
invariant_of-result c =
    (refl, is_atom c.text.result.now c.args.key c.text.ensures, is_atom c.text-2.result.now c.args.value c.text-2.ensures)

pub returns : goal.returns
returns c = write_by c.text.result.now c.text-2.result.now c.args.key c.args.value c.text.ensures c.text-2.ensures
