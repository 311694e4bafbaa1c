use Rattle.std.proofs.Common.{arith}
use Rattle.live_journal.proofs.Keeping.{keeps_rules_next, operations_next}
use Rattle.live_journal.proofs.kept.Kept.of_all.Goals as goal

pub extend-requires : goal.extend-requires
extend-requires g c = grind (arith, keeps_rules_next)

pub loop-number-preserved : goal.loop-number-preserved
loop-number-preserved g c = grind (arith, operations_next)
