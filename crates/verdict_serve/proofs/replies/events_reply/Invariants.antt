use Rattle.std.proofs.Common.{◌≡◌, ◌++◌, length, codes}
use Rattle.hist_types.specs.Texts.{number_line}
use Rattle.verdict_serve.proofs.Answered.{lines_of_operations}
use Rattle.verdict_serve.proofs.replies.events_reply.Given as goal

abbrev pub invariant-loop-op : goal.invariant-loop-op
invariant-loop-op l =
    (l.yielded ++ l.op-iterator ≡ l.fn.events) × (l.reply.items ≡ number_line (codes "events") (length l.fn.events) ++ lines_of_operations l.yielded)
