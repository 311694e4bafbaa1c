use Rattle.clean_order.proofs.Certified.{serial}
use Rattle.clean_order.proofs.settles_plain.Goals as goal

pub returns : goal.returns
returns c = serial _ c.args.deps.now _ _ _ c.keeps.ensures
