use Rattle.edn_ops.proofs.FlatMaps.{lone_token_in}
use Rattle.edn_ops.proofs.flat.any_other_key.Goals as goal

pub is_other-requires : goal.is_other-requires
is_other-requires c = lone_token_in c.args.text.now c.args.start c.in_ok-key.key c.requires c.in_ok-key.ensures.lone
