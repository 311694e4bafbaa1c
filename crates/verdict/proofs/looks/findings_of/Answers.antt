use Rattle.verdict.proofs.looks.findings_of.Goals as goal

pub look_at_all-requires-clause-right : goal.look_at_all-requires-clause-right
look_at_all-requires-clause-right c = c.new-board.ensures c.args.deps.now.table.keys c.args.deps.now.txns
