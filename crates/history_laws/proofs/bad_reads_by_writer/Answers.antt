use Rattle.history_laws.proofs.BadReads.{aborted_by_writer, intermediate_by_writer, stray_by_writer}
use Rattle.history_laws.proofs.bad_reads_by_writer.Goals as goal

pub returns : goal.returns
returns c = record {
  aborted = aborted_by_writer;
  intermediate = intermediate_by_writer;
  stray = stray_by_writer;
}
