use Rattle.std.proofs.Common.{◌≡◌, ◌∙◌, ◌+◌, ◌-◌, ◌*◌, take, get_or, sym, arith}
use Rattle.std.specs.Str.Parse.{digits_value}
use Rattle.verdict_serve.proofs.Words.{one_more_digit, few_digits}
use Rattle.verdict_serve.proofs.sayings.number_of.Goals as goal

pub overflow_mul-number : goal.overflow_mul-number
overflow_mul-number c =
    let so_far : c.loop-digit.number ≡ digits_value 10 (take c.loop-digit.digit-index c.args.digits.now) = c.loop-digit.invariant in
    let few = few_digits c.args.digits.now c.loop-digit.digit-index c.requires.digits c.requires.few in
    omega arith

pub overflow_add-number : goal.overflow_add-number
overflow_add-number c =
    let digits = c.args.digits.now in
    let i = c.loop-digit.digit-index in
    let so_far : c.loop-digit.number ≡ digits_value 10 (take i digits) = c.loop-digit.invariant in
    let digit : c.from.result ≡ get_or digits i 0 - 48 = c.from.ensures in
    let more = one_more_digit digits i c.requires.digits c.loop-digit-test.true in
    let few = few_digits digits (i + 1) c.requires.digits c.requires.few in
    omega arith

pub loop-digit-preserved : goal.loop-digit-preserved
loop-digit-preserved c =
    let digits = c.args.digits.now in
    let i = c.loop-digit.digit-index in
    let so_far : c.loop-digit.number ≡ digits_value 10 (take i digits) = c.loop-digit.invariant in
    let digit : c.from.result ≡ get_or digits i 0 - 48 = c.from.ensures in
    let sum : c.loop-digit.number * 10 + c.from.result ≡ digits_value 10 (take i digits) * 10 + (get_or digits i 0 - 48) = cc in
    sum ∙ sym (one_more_digit digits i c.requires.digits c.loop-digit-test.true)
