-- The pairs so far have slots.
use Rattle.std.proofs.Common.{length, take}
use Rattle.atom_index.specs.Slots.{HaveSlots}
use Rattle.atom_index.proofs.pair_slots.PairTable.has_all.Given as goal

abbrev pub invariant-loop-pair : goal.invariant-loop-pair
invariant-loop-pair l = HaveSlots l.self.width (length l.self.numbers) (take l.pair-index l.pairs)
