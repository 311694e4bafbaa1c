use Rattle.std.proofs.Common.{◌+◌, ◌<◌, length, sym, ap, subst, ◌∙◌}
use Rattle.std.proofs.lemmas.Grind.{flat_map-append}
use Rattle.hist_types.specs.Reading.{GivesOperations}
use Rattle.op_block.specs.Contents.{operations_of}
use Rattle.block_reader.specs.Blocks.{operations_in}
use Rattle.block_reader.specs.Parts.{ReadsThrough, front_of, part_at}
use Rattle.block_reader.proofs.Through.{through_next}
use Rattle.block_reader.proofs.parts.put_behind.Goals as goal

pub returns-in-Ok-clause-through : goal.returns-in-Ok-clause-through
returns-in-Ok-clause-through c = λ through.
    let text = c.args.text.now in
    let starts = c.args.starts.now in
    let old = c.args.blocks.now.items in
    let more = c.args.part.blocks.items in
    let below : c.args.index < length starts = subst (λ i. i < length starts) c.if-part-index.false c.requires.part.0 in
    let gives : GivesOperations (part_at text starts c.args.index) (operations_in more) =
    subst (λ i. GivesOperations (part_at text starts i) (operations_in more)) c.if-part-index.false c.requires.part.1 in
    subst (λ os. ReadsThrough (front_of text starts (c.args.index + 1)) os) (sym (ap operations_in c.in-Ok.ensures.items ∙ flat_map-append operations_of old more))
    (through_next c.parts_read_alone.ensures.part text starts c.args.index (operations_in old) (operations_in more) c.requires.starts below through gives)
