use Rattle.edge_graph.proofs.EdgesIn.{of_all_pairs, of_thinned}
use Rattle.edge_graph.proofs.laws.edges_of_a_history.Goals as goal

pub returns : goal.returns
returns c =
    record {
      all_pairs = λ keys ts order g kept made has level e. of_all_pairs keys ts kept level e order g made has;
      thinned = λ keys ts order g kept made has level e. of_thinned keys ts kept level e order g made has;
    }
