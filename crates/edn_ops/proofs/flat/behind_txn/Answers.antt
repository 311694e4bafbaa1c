use Rattle.edn_ops.proofs.PrintedFields.{txn_printed}
use Rattle.edn_ops.proofs.flat.behind_txn.Goals as goal

pub returns-then-has_here-clause-passes : goal.returns-then-has_here-clause-passes
returns-then-has_here-clause-passes c = txn_printed c.args.text.now c.args.comma c.requires (c.has_here.ensures c.if-has_here.true)
