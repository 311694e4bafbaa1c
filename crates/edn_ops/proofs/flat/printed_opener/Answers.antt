use Rattle.edn_ops.proofs.PrintedFields.{value_printed}
use Rattle.edn_ops.proofs.flat.printed_opener.Goals as goal

pub returns-then-has_here-clause-value : goal.returns-then-has_here-clause-value
returns-then-has_here-clause-value c = value_printed c.args.text.now c.args.comma c.requires (c.has_here.ensures c.if-has_here.true)
