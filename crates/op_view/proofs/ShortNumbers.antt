-- Numbers of a few digits.
use Rattle.std.proofs.Common.{◌≡◌, ℕ, ◌+◌, ◌*◌, ◌^◌, ◌<◌, ◌≤◌, ℤ, pos, List, length, get_or, sym, subst, arith}
use Rattle.std.specs.Int.{w64}
use Rattle.std.proofs.lemmas.Int.{to_z_pos}
use Rattle.edn_ops.specs.SourceTexts.{IsNumberOf}
use Rattle.edn_ops.proofs.Integers.{AreDigitsUpTo, digit_more, digits_below, digits_number}
use Rattle.op_view.specs.Spellings.{IsDigit}

-- one digit more
pub one_more :
    (text : List ℕ) (count number digit next : ℕ)
    → count < length text → IsDigit (get_or text count 0) digit → next ≡ number * 10 + digit
    → AreDigitsUpTo text count number → AreDigitsUpTo text (count + 1) next
one_more text count number digit next within is value h =
    subst (λ (n : ℕ). AreDigitsUpTo text (count + 1) n) (sym value) (digit_more text count number digit within is.digit is.value h)

-- where these are all of the text
pub number_of_few : (text : List ℕ) (count number : ℕ) → count ≡ length text → count ≤ 4 → AreDigitsUpTo text count number → IsNumberOf text (pos number)
number_of_few text count number all few h =
    let below : number < 10 ^ 4 = digits_below text count number 4 (omega (arith, all)) few h in
    let fits : number < 2 ^ 63 = omega arith in
    subst (λ (n : ℤ). IsNumberOf text n) (to_z_pos w64 number fits) (digits_number text count number (omega (arith, all)) fits h)
