use Rattle.edn_ops.proofs.PrintedFields.{invoke_printed, ok_printed}
use Rattle.edn_ops.proofs.flat.printed_kind.Goals as goal

pub returns-then-has_here-clause-kind : goal.returns-then-has_here-clause-kind
returns-then-has_here-clause-kind c = invoke_printed c.args.text.now c.args.start c.requires (c.has_here.ensures c.if-has_here.true)

pub returns-then-has_here-2-clause-kind : goal.returns-then-has_here-2-clause-kind
returns-then-has_here-2-clause-kind c = ok_printed c.args.text.now c.args.start c.requires (c.has_here-2.ensures c.if-has_here-2.true)
