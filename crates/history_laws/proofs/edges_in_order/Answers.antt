use Rattle.std.specs.Prelude.{Contains}
use Rattle.std.proofs.lemmas.List.Elements.{All-weaker, All-contains_itself}
use Rattle.history_laws.specs.EdgesInOrder.{HasOneAtItsPlace}
use Rattle.hist_types.specs.EdgeOrder.{in_order}
use Rattle.history_laws.proofs.EdgeOrder.{in_order-among, in_order-places, in_order-rise}
use Rattle.history_laws.proofs.PrintedEdges.{in_order-all}
use Rattle.history_laws.proofs.edges_in_order.Goals as goal

pub returns : goal.returns
returns c = record {
  among = in_order-among;
  places = λ es. All-weaker (Contains es) (HasOneAtItsPlace (in_order es)) (in_order-places es) es (All-contains_itself es);
  rising = in_order-rise;
  dependencies = in_order-all;
}
