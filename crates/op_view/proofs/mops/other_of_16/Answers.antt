use Rattle.std.proofs.Common.{take, arith}
use Rattle.std.proofs.lemmas.List.{length-take}
use Rattle.op_view.proofs.SameFronts.{lanes_differ}
use Rattle.op_view.proofs.mops.other_of_16.Goals as goal

pub returns : goal.returns
returns c = lanes_differ (take 16 c.args.a.now) (take 16 c.args.b.now) (omega (arith, length-take 16 c.args.a.now))
