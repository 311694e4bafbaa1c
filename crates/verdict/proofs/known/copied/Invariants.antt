-- What was copied so far are the edges so far.
use Rattle.std.proofs.Common.{◌≡◌, take}
use Rattle.verdict.proofs.known.copied.Given as goal

abbrev pub invariant-loop-edge : goal.invariant-loop-edge
invariant-loop-edge l = l.edges.items ≡ take l.edge-index l.edge-items
