-- No vertex gets lost, and one more is complete each time.
use Rattle.std.proofs.Common.{◌≡◌, length, vec_len}
use Rattle.graph_search.proofs.components.Components.complete.Given as goal

abbrev pub invariant-loop-self : goal.invariant-loop-self
invariant-loop-self l = length l.self.numbers.items ≡ length l.initial.self.numbers.items

abbrev pub decreases-loop-self : goal.decreases-loop-self
decreases-loop-self l = vec_len l.self.pending
