use Rattle.std.proofs.Common.{◌-◌, arith}
use Rattle.std.proofs.lemmas.Grind.{common_steps}
use Rattle.layer_calls.proofs.ranks.eight_from_last.Goals as goal

pub returns-clause-all : goal.returns-clause-all
returns-clause-all c v h = (7 - v, omega (arith, h), grind (arith, common_steps))
