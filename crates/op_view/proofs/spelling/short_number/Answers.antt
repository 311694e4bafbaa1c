use Rattle.std.proofs.Common.{◌+◌, ◌*◌, arith}
use Rattle.edn_ops.proofs.Integers.{no_digits}
use Rattle.op_view.proofs.ShortNumbers.{one_more, number_of_few}
use Rattle.op_view.proofs.spelling.short_number.Goals as goal

pub returns-in_ok-digit_of-in-len2-2 : goal.returns-in_ok-digit_of-in-len2-2
returns-in_ok-digit_of-in-len2-2 c =
    let text = c.args.text.now in
    let a = c.in_ok-digit_of-in-len2.field-0 in
    let b = c.in_ok-digit_of-in-len2-2.field-0 in
    let one = one_more text 0 0 a a (omega (arith, c.in-len2.len_at_least)) c.in_ok-digit_of-in-len2.ensures (omega arith) (no_digits text) in
    let two = one_more text 1 a b (a * 10 + b) (omega (arith, c.in-len2.len_at_least)) c.in_ok-digit_of-in-len2-2.ensures (omega arith) one in
    number_of_few text 2 (a * 10 + b) (omega (arith, c.in-len2.len_at_least, c.in-len2.len_below)) (omega arith) two

pub returns-in_ok-digit_of-in-len3-3 : goal.returns-in_ok-digit_of-in-len3-3
returns-in_ok-digit_of-in-len3-3 c =
    let text = c.args.text.now in
    let a = c.in_ok-digit_of-in-len3.field-0 in
    let b = c.in_ok-digit_of-in-len3-2.field-0 in
    let d = c.in_ok-digit_of-in-len3-3.field-0 in
    let one = one_more text 0 0 a a (omega (arith, c.in-len3.len_at_least)) c.in_ok-digit_of-in-len3.ensures (omega arith) (no_digits text) in
    let two = one_more text 1 a b (a * 10 + b) (omega (arith, c.in-len3.len_at_least)) c.in_ok-digit_of-in-len3-2.ensures (omega arith) one in
    let three = one_more text 2 (a * 10 + b) d ((a * 10 + b) * 10 + d) (omega (arith, c.in-len3.len_at_least)) c.in_ok-digit_of-in-len3-3.ensures (omega arith) two in
    number_of_few text 3 ((a * 10 + b) * 10 + d) (omega (arith, c.in-len3.len_at_least, c.in-len3.len_below)) (omega arith) three

pub returns-in_ok-digit_of-in-len4-4 : goal.returns-in_ok-digit_of-in-len4-4
returns-in_ok-digit_of-in-len4-4 c =
    let text = c.args.text.now in
    let a = c.in_ok-digit_of-in-len4.field-0 in
    let b = c.in_ok-digit_of-in-len4-2.field-0 in
    let d = c.in_ok-digit_of-in-len4-3.field-0 in
    let e = c.in_ok-digit_of-in-len4-4.field-0 in
    let one = one_more text 0 0 a a (omega (arith, c.in-len4.len_at_least)) c.in_ok-digit_of-in-len4.ensures (omega arith) (no_digits text) in
    let two = one_more text 1 a b (a * 10 + b) (omega (arith, c.in-len4.len_at_least)) c.in_ok-digit_of-in-len4-2.ensures (omega arith) one in
    let three = one_more text 2 (a * 10 + b) d ((a * 10 + b) * 10 + d) (omega (arith, c.in-len4.len_at_least)) c.in_ok-digit_of-in-len4-3.ensures (omega arith) two in
    let four = one_more text 3 ((a * 10 + b) * 10 + d) e (((a * 10 + b) * 10 + d) * 10 + e) (omega (arith, c.in-len4.len_at_least)) c.in_ok-digit_of-in-len4-4.ensures (omega arith) three in
    number_of_few text 4 (((a * 10 + b) * 10 + d) * 10 + e) (omega (arith, c.in-len4.len_at_least, c.in-len4.len_below)) (omega arith) four
