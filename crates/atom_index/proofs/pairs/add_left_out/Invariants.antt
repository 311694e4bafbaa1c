use Rattle.std.proofs.Common.{◌≡◌, ◌≤◌, ◌+◌, length}
use Rattle.indexmap.specs.IndexMap.{spare}
use Rattle.atom_index.specs.Lookups.{AreNumbersOf, HoldsOthers}
use Rattle.atom_index.proofs.LeftOut.{HaveMoved}
use Rattle.atom_index.proofs.pairs.add_left_out.Given as goal

abbrev pub invariant-loop-pair : goal.invariant-loop-pair
invariant-loop-pair g l =
    (l.number ≡ l.pair-index)
    × AreNumbersOf l.others l.pairs
    × HoldsOthers l.old.width (length l.old.numbers) l.others l.pairs
    × HaveMoved l.pairs l.new.width (length l.new.numbers) l.others l.pair-index
    × (l.room ≡ spare l.fn.others + 1)
    × (spare l.fn.others ≤ spare l.others)
