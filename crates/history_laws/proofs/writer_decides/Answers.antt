use Rattle.history_laws.proofs.BadReads.{one_aborted, one_intermediate, written_is_not_stray, unwritten_aborted, unwritten_intermediate, unwritten_stray}
use Rattle.history_laws.proofs.writer_decides.Goals as goal

pub returns : goal.returns
returns c = record {
  aborted = one_aborted;
  intermediate = one_intermediate;
  not_stray = λ ts v written. written_is_not_stray ts written.0 v written.1 written.2;
  none_aborted = unwritten_aborted;
  none_intermediate = λ ts v none reader. unwritten_intermediate ts reader v none;
  stray = unwritten_stray;
}
