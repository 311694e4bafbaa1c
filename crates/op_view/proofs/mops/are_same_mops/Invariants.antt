-- What is left on both sides is as long, and matches where the whole does.
use Rattle.std.proofs.Common.{◌≡◌, length}
use Rattle.op_block.specs.MopTexts.{mops_at}
use Rattle.op_view.proofs.Matching.{Matches}
use Rattle.op_view.proofs.mops.are_same_mops.Given as goal

abbrev pub invariant-loop-mop : goal.invariant-loop-mop
invariant-loop-mop l =
    (length l.mop-iterator.a.rest.now ≡ length l.mop-iterator.b.rest.now)
    × Matches l.left l.right l.mop-iterator.a.rest.now l.mop-iterator.b.rest.now (mops_at l.fn.text l.fn.mops) (mops_at l.fn.other_text l.fn.other_mops)
