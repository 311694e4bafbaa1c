use Rattle.std.proofs.Common.{◌≡◌, take, drop, ◌∙◌, arith}
use Rattle.std.specs.Char.{is_ascii_digit}
use Rattle.std.specs.List.{prefix_len}
use Rattle.std.proofs.lemmas.Simd.{length-chunk}
use Rattle.std.proofs.lemmas.List.Sums.{prefix_len-le-length}
use Rattle.edn_lex.specs.Flags.{is_no_digit}
use Rattle.edn_lex.proofs.Digits.{digits_before}
use Rattle.edn_lex.proofs.scan.digits_of_16.Goals as goal

pub returns : goal.returns
returns c =
    let xs = take 16 (drop c.args.at c.args.text.now) in
    let long = length-chunk c.args.at 16 c.args.text.now c.requires in
    let counted : c.bytes_before.result ≡ prefix_len is_ascii_digit xs =
    c.bytes_before.ensures is_no_digit xs long c.other_than_digits.ensures ∙ digits_before xs in
    record { len = counted; few = omega (arith, counted, long, prefix_len-le-length is_ascii_digit xs) }
