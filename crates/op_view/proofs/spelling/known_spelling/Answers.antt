use Rattle.std.proofs.Common.{◌∙◌, ℤ, pos, to_z, of_z, ap, sym, subst}
use Rattle.std.specs.Int.{w64}
use Rattle.op_view.specs.Spellings.{IsSpelled}
use Rattle.op_view.specs.declared.spelling.Spelling.TheVariants as spellings
use Rattle.edn_ops.proofs.Integers.{number_kept}
use Rattle.op_view.proofs.Spelled.{spelled_digits}
use Rattle.op_view.proofs.spelling.known_spelling.Goals as goal

pub returns-in-Some : goal.returns-in-Some
returns-in-Some c kind atom token =
    let text = c.args.text.now in
    let number = pos c.in-Some.number in
    subst (λ (n : ℤ). IsSpelled kind text (spellings.Integer n))
    (sym (ap (λ (n : ℤ). to_z w64 (of_z w64 n)) c.from.ensures ∙ number_kept text number c.in-Some.ensures))
    (spelled_digits kind text atom number token c.in-Some.ensures)
