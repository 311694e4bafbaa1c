use Rattle.std.proofs.Common.{arith}
use Rattle.edn_ops.proofs.flat_mops.pair_apart.Goals as goal

pub returns : goal.returns
returns c =
    let room = c.requires in
    let key = c.in_ok-key in
    let value = c.in_ok-value in
    let key_few = key.ensures.few in
    let value_few = value.ensures.few in
    record {
      key = key.ensures.lone;
      atom = key.ensures.atom;
      space = key.ensures.space;
      key_within = omega arith;
      value = value.ensures.lone;
      is_value = value.ensures.value;
      closes = value.ensures.after;
      few = omega arith;
    }
