-- What is kept is of those so far, which all completed before the index.
use Rattle.std.proofs.Common.{◌≡◌, ◌<◌, List, ◌++◌, take}
use Rattle.process_map.specs.Values.{value_of}
use Rattle.hist_types.proofs.Members.{In}
use Rattle.order_frontier.specs.declared.types.Completed.{Completed}
use Rattle.order_frontier.specs.Completions.{AreKept, AreTimely}
use Rattle.order_frontier.proofs.thinning.Thinning.advance.Given as goal

abbrev pub invariant-loop-count : goal.invariant-loop-count
invariant-loop-count l = record {
  kept : (earlier : List Completed) → AreTimely (earlier ++ l.done) → AreKept earlier l.fn.self.recent (value_of l.fn.self.last)
      → AreKept (earlier ++ take l.count l.done) l.self.recent (value_of l.self.last);
  before : (d : Completed) → In d (take l.count l.done) → d.completion < l.index;
  order : l.self.order ≡ l.fn.self.order;
}
