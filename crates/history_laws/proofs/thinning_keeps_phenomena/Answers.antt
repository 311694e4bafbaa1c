use Rattle.history_laws.proofs.ThinningWalks.{carried_to_thinned, carried_to_order, makes_alike, has_kept, has_thinned}
use Rattle.history_laws.proofs.Fewest.{fewest_of_thinned}
use Rattle.history_laws.proofs.thinning_keeps_phenomena.Goals as goal

pub returns : goal.returns
returns c = record {
  thinned = λ level events ns included others. carried_to_thinned level events ns others included;
  order = carried_to_order;
  counts = makes_alike;
  nodes = λ phenomenon level events ns included others. has_kept phenomenon level events ns others included;
  history = has_thinned;
  fewest = fewest_of_thinned;
}
