use Rattle.edn_ops.proofs.ReadsBack.Given.{spelled_can, mops_spelled_can}
use Rattle.edn_ops.proofs.laws.what_is_spelled_can_be_read.Goals as goal

pub returns-clause-atoms : goal.returns-clause-atoms
returns-clause-atoms c = spelled_can

pub returns-clause-mops : goal.returns-clause-mops
returns-clause-mops c = mops_spelled_can
