use Rattle.std.proofs.Common.{◌<◌, ◌^◌, arith, rules}
use Rattle.edn_ops.proofs.Integers.{no_digits, digit_more, digits_below, digits_number}
use Rattle.edn_ops.proofs.atoms.number_of_digits.Goals as goal

pub loop-byte-init : goal.loop-byte-init
loop-byte-init c = no_digits c.args.text.now

pub overflow_mul-number : goal.overflow_mul-number
overflow_mul-number c =
    let few : c.loop-byte.number < 10 ^ 18 = digits_below c.args.text.now c.loop-byte.byte-index c.loop-byte.number 18 (omega arith) (omega arith) c.loop-byte.invariant in
    omega arith

pub overflow_add-number : goal.overflow_add-number
overflow_add-number c =
    let few : c.loop-byte.number < 10 ^ 18 = digits_below c.args.text.now c.loop-byte.byte-index c.loop-byte.number 18 (omega arith) (omega arith) c.loop-byte.invariant in
    omega arith

pub loop-byte-preserved : goal.loop-byte-preserved
loop-byte-preserved c =
    digit_more c.args.text.now c.loop-byte.byte-index c.loop-byte.number c.from.result c.loop-byte-test.true (search rules)
    c.from.ensures c.loop-byte.invariant

pub overflow_cast-result : goal.overflow_cast-result
overflow_cast-result c =
    let few : c.loop-byte.number < 10 ^ 18 = digits_below c.args.text.now c.loop-byte.byte-index c.loop-byte.number 18 (omega arith) (omega arith) c.loop-byte.invariant in
    record { sfits = omega arith }

pub returns : goal.returns
returns c =
    let few : c.loop-byte.number < 10 ^ 18 = digits_below c.args.text.now c.loop-byte.byte-index c.loop-byte.number 18 (omega arith) (omega arith) c.loop-byte.invariant in
    digits_number c.args.text.now c.loop-byte.byte-index c.loop-byte.number (omega arith) (omega arith) c.loop-byte.invariant
