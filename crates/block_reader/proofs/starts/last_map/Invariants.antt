use Rattle.std.proofs.Common.{◌≤◌, ◌-◌, length}
use Rattle.block_reader.proofs.starts.last_map.Given as goal

abbrev pub invariant-loop-end : goal.invariant-loop-end
invariant-loop-end l = l.end ≤ length l.text - 1

abbrev pub decreases-loop-end : goal.decreases-loop-end
decreases-loop-end l = l.end
