use Rattle.clean_order.proofs.Accesses.{has_place}
use Rattle.clean_order.proofs.replay.put_now.Goals as goal

pub reads-reads-requires : goal.reads-reads-requires
reads-reads-requires g c = has_place c.args.txns.now c.args.versions.now c.args.place c.requires c.if-index-txns.false

pub writes-requires : goal.writes-requires
writes-requires g c = has_place c.args.txns.now c.args.versions.now c.args.place c.requires c.if-index-txns.false
