use Rattle.edn_lex.proofs.LookAhead.{opener_given}
use Rattle.edn_lex.proofs.ahead.vector_opener.Goals as goal

pub returns-then-text-start-eq91-clause-gives : goal.returns-then-text-start-eq91-clause-gives
returns-then-text-start-eq91-clause-gives c =
    let start = c.behind_word-start in
    opener_given c.args.text.now c.args.offset start.result start.ensures.low c.if-start-text.true start.ensures.blanks c.if-text-start-eq91.true
