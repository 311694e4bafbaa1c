use Rattle.std.proofs.Common.{◌∙◌, sym, ap, rules}
use Rattle.std.specs.Char.{is_ascii_digit}
use Rattle.std.specs.List.{list_all}
use Rattle.command_line.proofs.Digits.{no_number}
use Rattle.command_line.proofs.words.number_to.Goals as goal

pub returns-in_default-3 : goal.returns-in_default-3
returns-in_default-3 c =
    no_number c.args.most c.args.text.now c.in_default.field-0 (search rules) c.in_default.ensures.value.0
    (ap (list_all is_ascii_digit) (sym c.as_bytes.ensures.value) ∙ (sym c.all_digits.ensures ∙ c.if-not-all_digits.false))
