use Rattle.edn_lex.proofs.LookAhead.{ahead_lone, token_behind}
use Rattle.edn_lex.proofs.ahead.next_token.Goals as goal

pub returns-in-Some : goal.returns-in-Some
returns-in-Some c = record { gives = ahead_lone c.args.text.now c.args.offset c.in-Some.token (c.in-Some.ensures.lone c.args.offset c.behind_blanks-start.ensures) }

pub returns-in-None : goal.returns-in-None
returns-in-None c = record { gives = token_behind c.token_at.result c.args.text.now c.args.offset c.behind_blanks-start.result c.behind_blanks-start.ensures c.token_at.ensures.gives }
