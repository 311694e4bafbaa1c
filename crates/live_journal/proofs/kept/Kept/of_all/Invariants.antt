-- The analysis has the events of the blocks so far.
use Rattle.std.proofs.Common.{◌≡◌, take}
use Rattle.journal_core.specs.Blocks.{operations_in}
use Rattle.live_journal.proofs.kept.Kept.of_all.Given as goal

abbrev pub invariant-loop-number : goal.invariant-loop-number
invariant-loop-number g l =
    (l.analysis.keys ≡ l.fn.keys)
    × (l.analysis.events ≡ operations_in (take l.number l.journal.blocks))
