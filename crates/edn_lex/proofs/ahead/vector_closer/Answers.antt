use Rattle.edn_lex.proofs.LookAhead.{closer_given}
use Rattle.edn_lex.proofs.ahead.vector_closer.Goals as goal

pub returns-then-text-start-eq93-clause-gives : goal.returns-then-text-start-eq93-clause-gives
returns-then-text-start-eq93-clause-gives c =
    let start = c.behind_blanks-start in
    closer_given c.args.text.now c.args.offset start.result start.ensures.low c.if-start-text.true start.ensures.blanks c.if-text-start-eq93.true
