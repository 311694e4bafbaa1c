use Rattle.std.proofs.Common.{arith}
use Rattle.std.proofs.lemmas.Grind.{common_steps}
use Rattle.layer_calls.proofs.ranks.all_of_eight.Goals as goal

pub returns-clause-all : goal.returns-clause-all
returns-clause-all c v h = (v, h, grind (arith, common_steps))
