use Rattle.history_laws.proofs.PrintedEdges.{one_installed}
use Rattle.history_laws.proofs.WrittenOnce.{all_written, written_once, one_writer, installed_or_over, not_installed_over, nil_unwritten}
use Rattle.history_laws.proofs.versions_written_once.Goals as goal

pub returns : goal.returns
returns c = record {
  invoked = all_written;
  once = written_once;
  one_writer = λ events kept t u v has_t has_u. one_writer events kept t u has_t has_u v;
  installed_or_intermediate = installed_or_over;
  not_both = not_installed_over;
  one_of_a_key = one_installed;
  not_nil = nil_unwritten;
}
