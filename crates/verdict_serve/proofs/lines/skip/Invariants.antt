use Rattle.std.proofs.Common.{◌≡◌}
use Rattle.verdict_serve.proofs.Windows.{HasDropped}
use Rattle.verdict_serve.proofs.lines.skip.Given as goal

abbrev pub invariant-loop : goal.invariant-loop
invariant-loop g l =
    (goal.iterator-loop g).can_next l.iterator' × (goal.iterator-loop g).is_finite l.iterator'
    × HasDropped g.S.Source l.fn.source l.window l.source
    × (l.window.room ≡ l.fn.window.room)
