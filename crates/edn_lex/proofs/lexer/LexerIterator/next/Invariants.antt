use Rattle.std.proofs.Common.{◌-◌, length}
use Rattle.edn_lex.proofs.Steps.{Gapped}
use Rattle.edn_lex.proofs.lexer.LexerIterator.next.Given as goal

-- only blanks and comments have been passed over
abbrev pub invariant-loop-self : goal.invariant-loop-self
invariant-loop-self l = Gapped l.initial.self l.self

abbrev pub decreases-loop-self : goal.decreases-loop-self
decreases-loop-self l = length l.self.text - l.self.offset
