use Rattle.op_view.proofs.MopCount.{other_count}
use Rattle.op_view.proofs.mops.Mops.matches.Goals as goal

pub returns-then-self-other : goal.returns-then-self-other
returns-then-self-other c =
    other_count c.self.inside.text.now c.other.inside.text.now c.self.inside.left.now c.other.inside.left.now c.args.self.now c.args.other.now
    c.self.view_is c.other.view_is c.if-self-other.true
