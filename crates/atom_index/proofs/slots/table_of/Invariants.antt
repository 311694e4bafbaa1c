use Rattle.atom_index.proofs.Tables.{atom_slots, HasSeen}
use Rattle.atom_index.proofs.slots.table_of.Given as goal

abbrev pub invariant-loop-atom : goal.invariant-loop-atom
invariant-loop-atom l = HasSeen atom_slots l.number l.atom-index l.slots l.table l.atoms
