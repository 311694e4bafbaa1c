use Rattle.edn_ops.proofs.ReadsBack.Lines.{lines_read, lines_only}
use Rattle.edn_ops.proofs.laws.lines_read_back.Goals as goal

pub returns-clause-gives : goal.returns-clause-gives
returns-clause-gives c = lines_read

pub returns-clause-nothing_else : goal.returns-clause-nothing_else
returns-clause-nothing_else c = lines_only
