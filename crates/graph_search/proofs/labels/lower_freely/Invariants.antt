-- No number has risen.
use Rattle.graph_search.specs.Costs.{NoneAbove}
use Rattle.graph_search.proofs.labels.lower_freely.Given as goal

abbrev pub invariant-loop-vertex : goal.invariant-loop-vertex
invariant-loop-vertex g l = NoneAbove l.numbers l.fn.numbers

abbrev pub invariant-loop-vertex-2 : goal.invariant-loop-vertex-2
invariant-loop-vertex-2 g l = NoneAbove l.numbers l.fn.numbers
