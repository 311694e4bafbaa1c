use Rattle.history_laws.proofs.ThinningTimes.{invoked_in_order, completed_later, completed_elsewhere, completed_before}
use Rattle.history_laws.proofs.transactions_in_time.Goals as goal

pub returns : goal.returns
returns c = record {
  order = invoked_in_order;
  later = completed_later;
  apart = completed_elsewhere;
  process = completed_before;
}
