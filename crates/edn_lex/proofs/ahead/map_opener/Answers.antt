use Rattle.edn_lex.proofs.LookAhead.{map_opener_given}
use Rattle.edn_lex.proofs.ahead.map_opener.Goals as goal

pub returns-then-text-start-eq123-clause-gives : goal.returns-then-text-start-eq123-clause-gives
returns-then-text-start-eq123-clause-gives c =
    let start = c.behind_line-start in
    map_opener_given c.args.text.now c.args.offset start.result start.ensures.low c.if-start-text.true start.ensures.blanks c.if-text-start-eq123.true
