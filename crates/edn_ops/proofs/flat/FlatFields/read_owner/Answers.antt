use Rattle.std.proofs.Common.{sym, ◌∙◌}
use Rattle.edn_ops.proofs.FlatMaps.{owner_read}
use Rattle.edn_ops.proofs.Triples.{lone_in}
use Rattle.edn_ops.proofs.flat.FlatFields.read_owner.Goals as goal

pub owner_of-requires : goal.owner_of-requires
owner_of-requires c = lone_in c.args.text.now c.args.offset c.in_ok-token.token c.in_ok-token.ensures.gives

pub returns : goal.returns
returns c =
    let found = c.in_ok-token in
    owner_read c.args.text.now c.args.offset found.token c.args.self.now c.in_ok-owner.owner (sym c.is_some.ensures ∙ c.if-is_some.false) found.ensures.gives found.ensures.fits c.in_ok-owner.ensures
