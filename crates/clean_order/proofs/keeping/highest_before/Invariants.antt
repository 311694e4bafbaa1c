-- At the index so far the clock shows no more than what comes after the highest commit.
use Rattle.std.proofs.Common.{◌≤◌, ◌+◌}
use Rattle.clean_order.specs.Listed.{clock}
use Rattle.clean_order.proofs.keeping.highest_before.Given as goal

abbrev pub invariant-loop-k : goal.invariant-loop-k
invariant-loop-k l = (clock l.ends l.commits l.first ≤ l.commit + 1 → clock l.ends l.commits l.k ≤ l.highest + 1) × (l.commit ≤ l.highest)
