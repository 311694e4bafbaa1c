use Rattle.std.proofs.Common.{refl, subst}
use Rattle.hist_types.specs.Tokens.{Int}
use Rattle.edn_lex.specs.Kinds.{kind_of}
use Rattle.edn_lex.specs.declared.types.TokenKind.{TokenKind}
use Rattle.reading_laws.specs.Placed.{IsTokenAlone}
use Rattle.edn_ops.proofs.Tokens.{token_begins}
use Rattle.reading_laws.proofs.Fronts.{word_is}
use Rattle.op_view.proofs.spelling.spelling_of.Goals as goal

pub integer_of-requires : goal.integer_of-requires
integer_of-requires c =
    let token = subst (λ (kind : TokenKind). IsTokenAlone (kind_of kind) c.args.text.now) c.in-Int.is c.requires in
    (word_is Int c.args.text.now refl (token_begins Int c.args.text.now token)).passed
