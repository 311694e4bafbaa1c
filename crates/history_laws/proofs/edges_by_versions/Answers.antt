use Rattle.history_laws.proofs.DependencyEdges.{labels_by_versions, edges_by_versions}
use Rattle.history_laws.proofs.edges_by_versions.Goals as goal

pub returns : goal.returns
returns c = record {
  labels = labels_by_versions;
  edges = edges_by_versions;
}
