use Rattle.std.proofs.Common.{refl}
use Rattle.op_block.proofs.SpelledMops.{is_atom, is_value, read_by}
use Rattle.op_view.proofs.mops.Mop.r.Goals as goal

pub invariant_of-result : goal.invariant_of-result
invariant_of-result c =
    (refl, is_atom c.text.result.now c.args.key c.text.ensures, is_value c.value_text.result.now c.args.value c.value_text.ensures)

pub returns : goal.returns
returns c = read_by c.text.result.now c.value_text.result.now c.args.key c.args.value c.text.ensures c.value_text.ensures
