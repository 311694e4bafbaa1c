use Rattle.std.proofs.Common.{◌≡◌, ◌++◌}
use Rattle.edn_ops.specs.SourceTexts.{AreMopTexts}
use Rattle.seat_calls.proofs.calls.texts_of.Given as goal

abbrev pub invariant-loop-mop : goal.invariant-loop-mop
invariant-loop-mop l =
    (l.yielded ++ l.mop-iterator ≡ l.op.mops) × AreMopTexts l.texts.items l.yielded
