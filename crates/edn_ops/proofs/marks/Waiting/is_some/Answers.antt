use Rattle.std.proofs.Common.{◌∙◌}
use Rattle.edn_ops.proofs.MarksKept.{Waits-by_tag}
use Rattle.edn_ops.proofs.marks.Waiting.is_some.Goals as goal

pub returns-else-self-gt0 : goal.returns-else-self-gt0
returns-else-self-gt0 c = λ marks h. c.is_some.ensures ∙ Waits-by_tag c.args.self.drops c.args.self.tag marks c.if-self-gt0.false h
