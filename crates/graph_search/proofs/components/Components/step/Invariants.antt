use Rattle.std.proofs.Common.{◌≡◌, ◌<◌, length}
use Rattle.graph_search.proofs.components.Components.step.Given as goal

abbrev pub invariant-loop-index : goal.invariant-loop-index
invariant-loop-index g l = (length l.self.numbers.items ≡ length l.initial.self.numbers.items) × (l.vertex < length l.self.numbers.items)
