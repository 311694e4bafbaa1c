use Rattle.std.proofs.Common.{arith}
use Rattle.edn_lex.proofs.LookAhead.{closer_given}
use Rattle.edn_lex.proofs.ahead.vector_closer_at.Goals as goal

pub returns-clause-gives : goal.returns-clause-gives
returns-clause-gives c = closer_given c.args.text.now c.args.start c.args.start (omega arith) c.requires (λ k low high. absurd (omega arith)) c.if-text-start-ne93.false
