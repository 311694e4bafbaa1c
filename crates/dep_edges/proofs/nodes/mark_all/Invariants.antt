-- The places so far are marked.
use Rattle.std.proofs.Common.{◌≡◌, take}
use Rattle.dep_edges.specs.Pieces.{with_marks}
use Rattle.dep_edges.proofs.nodes.mark_all.Given as goal

abbrev pub invariant-loop-place : goal.invariant-loop-place
invariant-loop-place l = l.nodes ≡ with_marks l.initial.nodes (take l.place-index l.places)
