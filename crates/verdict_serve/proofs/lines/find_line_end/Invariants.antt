use Rattle.std.proofs.Common.{◌≡◌, ◌-◌, length}
use Rattle.verdict_serve.proofs.Windows.{HasGrown}
use Rattle.verdict_serve.proofs.lines.find_line_end.Given as goal

abbrev pub invariant-loop-place : goal.invariant-loop-place
invariant-loop-place g l =
    HasGrown g.S.Source l.fn.window l.fn.source l.window l.source l.searched
    × (l.window.room ≡ l.fn.window.room)

abbrev pub decreases-loop-place : goal.decreases-loop-place
decreases-loop-place g l = l.window.room - length l.window.bytes
