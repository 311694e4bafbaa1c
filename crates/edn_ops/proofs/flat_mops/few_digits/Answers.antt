use Rattle.std.proofs.Common.{arith}
use Rattle.edn_ops.proofs.FlatMaps.{lone_token_in, short_number, few_bytes}
use Rattle.edn_ops.proofs.flat_mops.few_digits.Goals as goal

pub returns-clause-atom : goal.returns-clause-atom
returns-clause-atom c =
    let text = c.args.text.now in
    let number = c.in_ok-number in
    let room = c.requires.room in
    let few = c.requires.few in
    let begins = number.ensures.start in
    let ends = number.ensures.end in
    let within = lone_token_in text c.args.start number.number (omega arith) number.ensures.lone in
    short_number text number.number number.ensures.kind within (few_bytes text number.number.start number.number.end (omega arith))
