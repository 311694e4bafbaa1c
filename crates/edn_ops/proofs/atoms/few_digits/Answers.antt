use Rattle.std.proofs.Common.{◌<◌, ◌^◌, arith, rules}
use Rattle.edn_ops.proofs.Integers.{no_digits, digit_more, digits_below, digits_taken}
use Rattle.edn_ops.proofs.atoms.few_digits.Goals as goal

pub loop-len-init : goal.loop-len-init
loop-len-init c = (no_digits c.args.text.now, omega arith)

pub overflow_mul-number : goal.overflow_mul-number
overflow_mul-number c =
    let few : c.loop-len.number < 10 ^ 9 = digits_below c.args.text.now c.loop-len.len c.loop-len.number 9 (omega arith) (omega arith) c.loop-len.invariant.0 in
    omega arith

pub overflow_add-number : goal.overflow_add-number
overflow_add-number c =
    let few : c.loop-len.number < 10 ^ 9 = digits_below c.args.text.now c.loop-len.len c.loop-len.number 9 (omega arith) (omega arith) c.loop-len.invariant.0 in
    omega arith

pub loop-len-preserved : goal.loop-len-preserved
loop-len-preserved c = (digit_more c.args.text.now c.loop-len.len c.loop-len.number c.from.result (omega arith) (search rules) c.from.ensures c.loop-len.invariant.0, omega arith)

pub returns-else-is_ascii_digit-clause-number : goal.returns-else-is_ascii_digit-clause-number
returns-else-is_ascii_digit-clause-number c =
    let few : c.loop-len.number < 10 ^ 9 = digits_below c.args.text.now c.loop-len.len c.loop-len.number 9 (omega arith) (omega arith) c.loop-len.invariant.0 in
    digits_taken c.args.text.now c.loop-len.len c.loop-len.number (omega arith) c.loop-len.invariant.0

pub returns-after-loop-len-clause-number : goal.returns-after-loop-len-clause-number
returns-after-loop-len-clause-number c =
    let few : c.loop-len.number < 10 ^ 9 = digits_below c.args.text.now c.loop-len.len c.loop-len.number 9 (omega arith) (omega arith) c.loop-len.invariant.0 in
    digits_taken c.args.text.now c.loop-len.len c.loop-len.number (omega arith) c.loop-len.invariant.0
