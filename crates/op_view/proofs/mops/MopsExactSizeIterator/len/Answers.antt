use Rattle.op_view.proofs.MopCount.{as_many_left}
use Rattle.op_view.proofs.mops.MopsExactSizeIterator.len.Goals as goal

pub returns-clause-value : goal.returns-clause-value
returns-clause-value c = as_many_left c.self.inside.text.now c.self.inside.left.now c.args.self.now c.self.view_is
