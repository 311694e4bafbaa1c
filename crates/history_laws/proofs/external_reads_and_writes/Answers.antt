use Rattle.history_laws.proofs.Externals.{external_reads-first, external_writes-last}
use Rattle.history_laws.proofs.external_reads_and_writes.Goals as goal

pub returns : goal.returns
returns c = record {
  reads = external_reads-first;
  writes = external_writes-last;
}
