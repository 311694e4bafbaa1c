use Rattle.atom_index.proofs.Tables.{atom_slots, seen_without, seen_taken, seen_set}
use Rattle.atom_index.proofs.slots.table_of.Goals.{in-Some+then-is_none, in-Some+else-is_none, in_default}
use Rattle.atom_index.proofs.slots.table_of.Goals as goal

pub loop-atom-preserved : goal.loop-atom-preserved
loop-atom-preserved c = elim c.match-slot_of.branch [
  | in-Some+then-is_none w ↦ rw (w.table-is, w.set.ensures)
      (seen_set atom_slots c.loop-atom.number c.loop-atom.atom-index c.args.slots c.loop-atom.table c.args.atoms.now c.atom-item.result w.in-Some.slot w.get.result
      c.loop-atom.invariant c.loop-atom-test.true c.atom-item.is w.in-Some.ensures w.get.ensures w.if-is_none.ensures)
  | in-Some+else-is_none w ↦ rw w.table-is
      (seen_taken atom_slots c.loop-atom.number c.loop-atom.atom-index c.args.slots c.loop-atom.table c.args.atoms.now c.atom-item.result w.in-Some.slot w.get.result
      c.loop-atom.invariant c.loop-atom-test.true c.atom-item.is w.in-Some.ensures w.get.ensures w.if-is_none.ensures)
  | in_default w ↦ rw w.table-is
      (seen_without atom_slots c.loop-atom.number c.loop-atom.atom-index c.args.slots c.loop-atom.table c.args.atoms.now c.atom-item.result
      c.loop-atom.invariant c.loop-atom-test.true c.atom-item.is w.in_default.ensures)
]
