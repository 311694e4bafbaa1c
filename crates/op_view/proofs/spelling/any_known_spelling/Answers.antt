use Rattle.std.proofs.Common.{◌≡◌, ◌∙◌, Some, sym, subst}
use Rattle.hist_types.specs.AtomTokens.{atom_of_token}
use Rattle.hist_types.specs.Tokens.{ItemKind}
use Rattle.edn_lex.specs.Kinds.{kind_of}
use Rattle.reading_laws.specs.Placed.{IsTokenAlone}
use Rattle.op_view.specs.Spellings.{IsSpelled}
use Rattle.edn_ops.proofs.KindsByFront.{kind_told}
use Rattle.op_view.proofs.Spelled.{has_spelling}
use Rattle.op_view.proofs.spelling.any_known_spelling.Goals as goal

pub spelling_of-requires : goal.spelling_of-requires
spelling_of-requires c =
    let h = c.requires in
    let told = sym (c.token_kind.ensures ∙ kind_told h.1.0 c.args.text.now h.0 (h.1.1, h.1.2)) in
    subst (λ (kind : ItemKind). IsTokenAlone kind c.args.text.now) told h.1.1

pub unwrap-requires : goal.unwrap-requires
unwrap-requires c =
    let h = c.requires in
    let told = sym (c.token_kind.ensures ∙ kind_told h.1.0 c.args.text.now h.0 (h.1.1, h.1.2)) in
    has_spelling (kind_of c.token_kind.result) c.args.text.now h.0 c.spelling_of.result
    (subst (λ (kind : ItemKind). atom_of_token kind c.args.text.now ≡ Some h.0) told h.1.2) c.spelling_of.ensures

pub returns : goal.returns
returns c kind atom token =
    let told = c.token_kind.ensures ∙ kind_told kind c.args.text.now atom token in
    subst (λ (k : ItemKind). IsSpelled k c.args.text.now c.unwrap.result) told (rw c.unwrap.ensures at c.spelling_of.ensures)
