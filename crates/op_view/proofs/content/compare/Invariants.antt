use Rattle.std.proofs.Common.{◌≡◌, length, true}
use Rattle.std.specs.Cmp.Lexicographic.{slice_cmp}
use Rattle.std.specs.Ordering.{nat_cmp}
use Rattle.op_view.specs.Decoding.{has_content, content_of}
use Rattle.op_view.proofs.content.compare.Given as goal

-- what is left compares as the whole
abbrev pub invariant-loop-x : goal.invariant-loop-x
invariant-loop-x l =
    (has_content l.left ≡ true) × (has_content l.right ≡ true)
    × (slice_cmp nat_cmp (content_of l.left) (content_of l.right) ≡ slice_cmp nat_cmp (content_of l.a) (content_of l.b))

abbrev pub decreases-loop-x : goal.decreases-loop-x
decreases-loop-x l = length l.left
