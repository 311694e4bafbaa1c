use Rattle.std.proofs.Common.{subst, sym}
use Rattle.std.specs.Str.{IsUtf8}
use Rattle.edn_ops.proofs.Integers.{int_text, parsed_int, number_from_digits}
use Rattle.edn_ops.proofs.atoms.integer_of.Goals as goal

pub returns-in-Some : goal.returns-in-Some
returns-in-Some c = number_from_digits c.args.spelling.now c.in-Some.number c.in-Some.ensures

pub returns-in_default-from_utf8 : goal.returns-in_default-from_utf8
returns-in_default-from_utf8 c = absurd (c.in_default-from_utf8.ensures.cases.0 (subst IsUtf8 (sym c.without_n.ensures) (int_text c.args.spelling.now c.requires)))

pub returns : goal.returns
returns c = parsed_int c.args.spelling.now c.in-Ok.text.now c.without_n.result.now c.parse.result c.ok.result c.requires c.without_n.ensures c.in-Ok.ensures.cases.0 c.parse.ensures.value.0 c.ok.ensures.value
