use Rattle.edn_lex.proofs.LookAhead.{lone_behind}
use Rattle.edn_lex.proofs.ahead.lone_token.Goals as goal

pub returns-clause-gives : goal.returns-clause-gives
returns-clause-gives c = lone_behind c.lone_at.result c.args.text.now c.args.offset c.behind_word.result c.behind_word.ensures c.lone_at.ensures.lone
