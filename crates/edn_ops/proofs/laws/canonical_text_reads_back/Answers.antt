use Rattle.edn_ops.proofs.ReadsBack.Lines.{operation_reads, operation_only}
use Rattle.edn_ops.proofs.laws.canonical_text_reads_back.Goals as goal

pub returns-clause-gives : goal.returns-clause-gives
returns-clause-gives c = operation_reads

pub returns-clause-nothing_else : goal.returns-clause-nothing_else
returns-clause-nothing_else c = operation_only
