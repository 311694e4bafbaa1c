use Rattle.std.proofs.Common.{◌-◌, length}
use Rattle.edn_ops.proofs.Places.{Passed}
use Rattle.edn_ops.proofs.reader.Place.next_op.Given as goal

abbrev pub invariant-loop-member : goal.invariant-loop-member
invariant-loop-member l = Passed l.initial.self.lexer l.initial.self.list l.initial.self.skipped l.self.lexer l.self.list l.self.skipped

abbrev pub decreases-loop-member : goal.decreases-loop-member
decreases-loop-member l = length l.self.lexer.text - l.self.lexer.offset
