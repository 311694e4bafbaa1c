use Rattle.std.proofs.Common.{◌≡◌, take}
use Rattle.atom_index.specs.Slots.{HoldsPairs}
use Rattle.atom_index.proofs.pair_slots.PairTable.fill.Given as goal

abbrev pub invariant-loop-pair : goal.invariant-loop-pair
invariant-loop-pair l =
    (l.number ≡ l.pair-index)
    × (l.self.width ≡ l.fn.self.width)
    × HoldsPairs l.self.width l.self.numbers (take l.pair-index l.pairs)
