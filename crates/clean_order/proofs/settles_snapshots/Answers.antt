use Rattle.clean_order.proofs.Certified.{apart}
use Rattle.clean_order.proofs.settles_snapshots.Goals as goal

pub returns-in-Some : goal.returns-in-Some
returns-in-Some c = apart _ c.args.deps.now _ _ _ _ c.keeps.ensures
