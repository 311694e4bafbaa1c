use Rattle.std.proofs.Common.{arith, ◌≤◌, length, take, refl, ◌∙◌, ap}
use Rattle.std.specs.Char.{is_ascii_digit}
use Rattle.std.specs.List.{list_all}
use Rattle.edn_lex.proofs.Digits.{counted_pass}
use Rattle.edn_lex.proofs.scan.digits_alone.Goals as goal
use Rattle.edn_lex.proofs.scan.digits_alone.Goals.{then-text-lt-DIGIT_LANES, else-text-lt-DIGIT_LANES}

pub loop-len-init : goal.loop-len-init
loop-len-init c =
    let text = c.args.text.now in
    elim c.if-text-lt-DIGIT_LANES.branch [
      | then-text-lt-DIGIT_LANES w ↦ rw w.len-is (omega arith, refl)
      | else-text-lt-DIGIT_LANES w ↦
          let found = w.digits_of_16-len in
          let fits : found.result ≤ length text = omega (arith, found.ensures.few, w.if-text-lt-DIGIT_LANES.false) in
          rw w.len-is (fits, ap (λ (k : _). list_all is_ascii_digit (take k text)) found.ensures.len ∙ counted_pass is_ascii_digit 16 text)
    ]
