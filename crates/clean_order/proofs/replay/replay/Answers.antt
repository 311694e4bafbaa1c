use Rattle.std.proofs.Common.{rules}
use Rattle.clean_order.proofs.replay.replay.Goals as goal

pub returns : goal.returns
returns g c = λ done.
    let ts = c.args.txns.now in
    let versions = c.args.versions.now.versions in
    c.finish.ensures versions done (c.in_ok-put_all.ensures (search rules) (c.in_ok-replay.ensures ts versions))
