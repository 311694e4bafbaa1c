use Rattle.edn_ops.proofs.PrintedFields.{front_from}
use Rattle.edn_ops.proofs.flat.map_front.Goals as goal

pub returns : goal.returns
returns c = front_from c.args.text.now c.args.offset c.behind_index.result c.in_ok-front.front c.requires c.behind_index.ensures c.in_ok-front.ensures
