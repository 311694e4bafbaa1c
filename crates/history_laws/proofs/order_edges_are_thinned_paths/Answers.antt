use Rattle.history_laws.proofs.ThinningPaths.{paths_of_thinned_edges, nodes_included, all_included}
use Rattle.history_laws.proofs.order_edges_are_thinned_paths.Goals as goal

pub returns : goal.returns
returns c = record {
  paths = paths_of_thinned_edges;
  nodes = nodes_included;
  all = all_included;
}
