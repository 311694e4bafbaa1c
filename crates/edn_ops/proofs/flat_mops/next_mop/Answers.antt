use Rattle.std.proofs.Common.{◌+◌}
use Rattle.edn_lex.specs.declared.ahead.Triple.{Triple}
use Rattle.edn_ops.proofs.FlatMaps.{lone_here, gap_more, mop_given}
use Rattle.edn_ops.proofs.flat_mops.next_mop.Goals as goal

pub returns : goal.returns
returns c =
    let text = c.args.text.now in
    let opener = c.in_ok-opener in
    let name = c.in_ok-is_write in
    let key = c.in_ok-key in
    let value = c.in_ok-value in
    let closer = c.in_ok-closer in
    let t : Triple = record { opener = opener.opener; first = name.name; second = key.key; third = value.value; closer = closer.closer } in
    mop_given text c.args.offset name.is_write t c.span.result c.span-2.result
    (record {
      opener = opener.ensures.gives;
      first = lone_here text opener.opener.end name.name opener.ensures.fits name.ensures.lone;
      second = key.ensures.lone name.name.end (gap_more text name.name.end (name.name.end + 1) c.behind_blanks.result name.ensures.space c.behind_blanks.ensures);
      third = value.ensures.lone key.key.end c.behind_word.ensures;
      closer = closer.ensures.gives;
    })
    closer.ensures.fits name.ensures.is_write key.ensures.atom value.ensures.value c.span.ensures c.span-2.ensures
