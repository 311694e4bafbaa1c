use Rattle.std.proofs.Common.{subst, sym, List, ℕ}
use Rattle.edn_lex.specs.Kinds.{kind_of}
use Rattle.edn_ops.specs.Outlines.{IsSpelled}
use Rattle.edn_ops.proofs.FlatMaps.{lone_token_in}
use Rattle.edn_ops.proofs.flat_mops.any_atom_at.Goals as goal

pub bytes_of-requires : goal.bytes_of-requires
bytes_of-requires c = lone_token_in c.args.text.now c.args.start c.in_ok-token.token c.requires c.in_ok-token.ensures.lone

pub is_atom-requires : goal.is_atom-requires
is_atom-requires c =
    let token = c.in_ok-token in
    subst (λ (bytes : List ℕ). IsSpelled (kind_of token.token.kind) bytes) (sym c.bytes_of.ensures) (lone_token_in c.args.text.now c.args.start token.token c.requires token.ensures.lone).spelled
