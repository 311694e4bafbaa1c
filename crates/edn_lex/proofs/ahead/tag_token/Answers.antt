use Rattle.edn_lex.proofs.ahead.tag_token.Goals as goal

pub returns-in-Some-clause-gives : goal.returns-in-Some-clause-gives
returns-in-Some-clause-gives c = c.in-Some.ensures.gives c.args.offset c.behind_line-start.ensures

pub returns-in-Tag-clause-gives : goal.returns-in-Tag-clause-gives
returns-in-Tag-clause-gives c = c.in_ok-token.ensures.gives c.args.offset c.behind_line-start.ensures
