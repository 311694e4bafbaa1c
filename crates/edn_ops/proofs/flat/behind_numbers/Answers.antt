use Rattle.std.proofs.Common.{◌+◌, arith}
use Rattle.edn_ops.proofs.FlatMaps.{one_more_passed, gap_more, comma_here, no_gap}
use Rattle.edn_ops.proofs.flat.behind_numbers.Goals as goal

pub returns-clause-passes : goal.returns-clause-passes
returns-clause-passes c =
    let text = c.args.text.now in
    let room = c.if-text-offset-lt-NUMBERS_LOOK.false in
    let index = c.in-Some in
    let index_to = index.ensures.few in
    let next = c.behind_space in
    one_more_passed text c.args.offset index.index next.result c.unwrap_or.result c.number_field-2.result (index.ensures.passes c.args.offset (no_gap text c.args.offset c.requires))
    (gap_more text index.index (index.index + 1) next.result (comma_here text index.index (omega arith) index.ensures.comma) next.ensures.gap) c.number_field-2.ensures.passes c.unwrap_or.ensures
