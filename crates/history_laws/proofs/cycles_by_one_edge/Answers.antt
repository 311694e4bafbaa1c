use Rattle.history_laws.proofs.ThinningCycles.{closed_by_one, when_thinned}
use Rattle.history_laws.proofs.Fewest.{few_by_one}
use Rattle.history_laws.proofs.cycles_by_one_edge.Goals as goal

pub returns : goal.returns
returns c = record {
  edges = closed_by_one;
  thinned = when_thinned;
  few = few_by_one;
}
