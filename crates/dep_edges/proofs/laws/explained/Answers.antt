use Rattle.report_laws.proofs.ExplainedPhenomena.{dependencies_kept, order_kept}
use Rattle.report_laws.proofs.ExplainedReads.{no_g1a, no_g1b}
use Rattle.dep_edges.proofs.laws.explained.Goals as goal

pub returns : goal.returns
returns c = record {
  dependencies = dependencies_kept;
  order = order_kept;
  g1a = no_g1a;
  g1b = no_g1b;
}
