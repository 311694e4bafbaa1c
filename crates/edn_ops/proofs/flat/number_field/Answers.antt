use Rattle.std.proofs.Common.{arith}
use Rattle.hist_types.specs.Forms.{plain}
use Rattle.edn_lex.specs.Kinds.{item_of}
use Rattle.edn_ops.proofs.FlatMaps.{field_passed, space_here}
use Rattle.edn_ops.proofs.flat.number_field.Goals as goal

pub returns-clause-passes : goal.returns-clause-passes
returns-clause-passes c =
    let text = c.args.text.now in
    let room = c.requires.room in
    let key = c.in_ok-key in
    let key_to = key.ensures.end in
    let number = c.in_ok-number in
    let number_to = number.ensures.few in
    field_passed text c.args.start key.key number.number key.ensures.lone (c.requires.other (plain (item_of text key.key)) key.ensures.named)
    (number.ensures.lone key.key.end (space_here text key.key.end (omega arith) key.ensures.space)) (omega arith)
