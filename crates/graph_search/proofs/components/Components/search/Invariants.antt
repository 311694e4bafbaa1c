use Rattle.std.proofs.Common.{◌≡◌, length}
use Rattle.graph_search.proofs.components.Components.search.Given as goal

abbrev pub invariant-loop : goal.invariant-loop
invariant-loop g l = length l.self.numbers.items ≡ length l.initial.self.numbers.items
