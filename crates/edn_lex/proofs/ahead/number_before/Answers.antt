use Rattle.std.proofs.Common.{ℕ, drop, take, ap, ◌∙◌}
use Rattle.std.specs.Char.{is_ascii_digit}
use Rattle.std.specs.List.{list_all}
use Rattle.edn_lex.proofs.Digits.{counted_pass}
use Rattle.edn_lex.proofs.ahead.number_before.Goals as goal

pub digits_before-requires-clause-digits : goal.digits_before-requires-clause-digits
digits_before-requires-clause-digits c =
    let text = c.args.text.now in
    let start = c.args.start in
    ap (λ (k : ℕ). list_all is_ascii_digit (take k (drop start text))) c.digits_of_16-len.ensures.len ∙ counted_pass is_ascii_digit 16 (drop start text)
