use Rattle.history_laws.proofs.ProcessPairs.{process_pairs-steps, process_pairs-between, no_process_pairs}
use Rattle.history_laws.proofs.pairs_of_a_process.Goals as goal

pub returns : goal.returns
returns c = record {
  steps = process_pairs-steps;
  between_two = process_pairs-between;
  basic = no_process_pairs;
}
