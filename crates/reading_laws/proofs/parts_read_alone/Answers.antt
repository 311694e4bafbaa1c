use Rattle.reading_laws.proofs.PartsOfTexts.{part_reads, rest_reads, fault_reads}
use Rattle.reading_laws.proofs.parts_read_alone.Goals as goal

pub returns-clause-part : goal.returns-clause-part
returns-clause-part c = part_reads

pub returns-clause-rest : goal.returns-clause-rest
returns-clause-rest c = rest_reads

pub returns-clause-fault : goal.returns-clause-fault
returns-clause-fault c = fault_reads
