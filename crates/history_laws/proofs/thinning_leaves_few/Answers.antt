use Rattle.history_laws.proofs.ThinningBound.{open_at_most, few_nodes, one_nodes, few_all, one_all}
use Rattle.history_laws.proofs.thinning_leaves_few.Goals as goal

pub returns : goal.returns
returns c = record {
  most = open_at_most;
  realtime = few_nodes;
  process = one_nodes;
  all_realtime = few_all;
  all_process = one_all;
}
