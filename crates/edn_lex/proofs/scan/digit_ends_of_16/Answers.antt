use Rattle.std.proofs.Common.{◌≡◌, ◌+◌, ◌-◌, ◌<◌, ◌%◌, ◌^◌, ℕ, length, take, drop, map, not, sym, ap, subst, ◌∙◌, arith}
use Rattle.std.specs.Char.{is_ascii_digit}
use Rattle.std.specs.Int.Bits.{bit_and}
use Rattle.std.specs.List.{list_all, prefix_len}
use Rattle.std.specs.Simd.Lanes.{mask_l}
use Rattle.std.proofs.lemmas.List.{length-map}
use Rattle.std.proofs.lemmas.Nat.{and_le_l}
use Rattle.std.proofs.lemmas.Simd.{length-chunk, mask_l-lt, trailing_mask_l}
use lib.Count.{count_trailing_zeros}
use Rattle.edn_lex.specs.Flags.{is_no_digit}
use Rattle.edn_lex.proofs.Digits.{digits_before, counted_pass}
use Rattle.edn_lex.proofs.Masks.{cleared, cleared_mask, lowest, second_found, bytes_between}
use Rattle.edn_lex.proofs.scan.digit_ends_of_16.Goals as goal

pub returns : goal.returns
returns c =
    let text = c.args.text.now in
    let at = c.args.at in
    let xs = take 16 (drop at text) in
    let bs = map is_no_digit xs in
    let bits = c.other_than_digits-bits.result in
    let is = c.other_than_digits-bits.ensures in
    let long = length-chunk at 16 text c.requires in
    let long_too = length-map xs is_no_digit in
    let below = (bits + 18446744073709551615) % 18446744073709551616 in
    let rest = bit_and bits below in
    let nonzero = c.if-rest-eq0.false in
    let some : 0 < bits = omega (arith, and_le_l bits below) in
    let high : bits < 2 ^ 16 = subst (λ (n : ℕ). bits < 2 ^ n) (long_too ∙ long) (subst (λ (n : ℕ). n < 2 ^ length bs) (sym is) (mask_l-lt bs)) in
    let one_less : below ≡ bits - 1 = omega arith in
    let rest_is : rest ≡ mask_l (cleared bs) =
    ap (bit_and bits) one_less ∙ ap (λ (n : ℕ). bit_and n (n - 1)) is ∙ cleared_mask bs (subst (λ (n : ℕ). 0 < n) is some) in
    let rest_some : 0 < mask_l (cleared bs) = omega (arith, rest_is) in
    let first_is : count_trailing_zeros 64 bits ≡ prefix_len is_ascii_digit xs =
    ap (count_trailing_zeros 64) is ∙ trailing_mask_l is_no_digit 64 xs (omega (arith, long)) (subst (λ (n : ℕ). 0 < n) is some) ∙ digits_before xs in
    let second_is : count_trailing_zeros 64 rest ≡ prefix_len not (cleared bs) = ap (count_trailing_zeros 64) rest_is ∙ lowest bs (omega (arith, long, long_too)) rest_some in
    let found = second_found xs rest_some in
    let order = found.order in
    let few = found.few in
    record {
      first = ap (λ (n : ℕ). list_all is_ascii_digit (take n (drop at text))) first_is ∙ counted_pass is_ascii_digit 16 (drop at text);
      second = bytes_between text at (count_trailing_zeros 64 bits) (count_trailing_zeros 64 rest) (prefix_len is_ascii_digit xs) (prefix_len not (cleared bs)) first_is second_is (omega (arith, long)) found;
      order = omega (arith, first_is, second_is);
      few = omega (arith, second_is, long);
    }
