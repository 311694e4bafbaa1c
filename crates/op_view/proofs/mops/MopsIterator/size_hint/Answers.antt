use Rattle.std.proofs.Common.{Some, ap, arith}
use Rattle.op_view.proofs.MopCount.{as_many_left}
use Rattle.op_view.proofs.mops.MopsIterator.size_hint.Goals as goal

pub returns-clause-lower : goal.returns-clause-lower
returns-clause-lower c known = omega (arith, as_many_left c.self.inside.text.now c.self.inside.left.now c.args.self.now c.self.view_is)

pub returns-clause-upper : goal.returns-clause-upper
returns-clause-upper c = (tt, omega (arith, as_many_left c.self.inside.text.now c.self.inside.left.now c.args.self.now c.self.view_is))

pub returns-clause-exact : goal.returns-clause-exact
returns-clause-exact c = ap (λ n. (n, Some n)) (as_many_left c.self.inside.text.now c.self.inside.left.now c.args.self.now c.self.view_is)
