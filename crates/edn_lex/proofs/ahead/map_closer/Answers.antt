use Rattle.edn_lex.proofs.LookAhead.{map_closer_given}
use Rattle.edn_lex.proofs.ahead.map_closer.Goals as goal

pub returns-then-text-start-eq125-clause-gives : goal.returns-then-text-start-eq125-clause-gives
returns-then-text-start-eq125-clause-gives c offset gap = map_closer_given c.args.text.now offset c.args.start gap.low c.if-start-text.true gap.blanks c.if-text-start-eq125.true
