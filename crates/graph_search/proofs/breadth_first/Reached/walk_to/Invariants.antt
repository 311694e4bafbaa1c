-- The vertices so far are the way back to the place.
use Rattle.std.proofs.Common.{◌<◌, length}
use Rattle.graph_search.proofs.WaysBack.{IsWayBack}
use Rattle.graph_search.proofs.breadth_first.Reached.walk_to.Given as goal

abbrev pub invariant-loop-at : goal.invariant-loop-at
invariant-loop-at l = record {
  at : l.at < length l.self.queue.items;
  way : IsWayBack l.self.queue.items l.place l.at l.walk.items;
}

abbrev pub decreases-loop-at : goal.decreases-loop-at
decreases-loop-at l = l.at
