use Rattle.clean_order.proofs.CleanReads.{clean_reads_suffice}
use Rattle.clean_order.proofs.laws.clean_reads.Goals as goal

pub returns : goal.returns
returns c = clean_reads_suffice
