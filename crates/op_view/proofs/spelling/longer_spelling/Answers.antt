use Rattle.std.proofs.Common.{ℤ, sym, subst}
use Rattle.op_view.specs.Spellings.{IsSpelled}
use Rattle.op_view.specs.declared.spelling.Spelling.TheVariants as spellings
use Rattle.edn_ops.proofs.Integers.{number_kept}
use Rattle.op_view.proofs.Spelled.{spelled_digits}
use Rattle.op_view.proofs.spelling.longer_spelling.Goals as goal

pub returns-in-Some : goal.returns-in-Some
returns-in-Some c kind atom token =
    let number = c.in-Some.number in
    let text = c.args.text.now in
    subst (λ (n : ℤ). IsSpelled kind text (spellings.Integer n)) (sym (number_kept text number c.in-Some.ensures))
    (spelled_digits kind text atom number token c.in-Some.ensures)
