use Rattle.std.proofs.Common.{◌≡◌, ◌++◌}
use Rattle.edn_ops.specs.SourceTexts.{AreMopTexts}
use Rattle.verdict_serve.proofs.replies.texts_of.Given as goal

abbrev pub invariant-loop-mop : goal.invariant-loop-mop
invariant-loop-mop l = (l.yielded ++ l.mop-iterator ≡ l.fn.op.mops) × AreMopTexts l.texts.items l.yielded
