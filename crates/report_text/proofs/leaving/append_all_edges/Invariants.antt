use Rattle.report_text.proofs.EdgeLines.{AreWritten}
use Rattle.report_text.proofs.leaving.append_all_edges.Given as goal

abbrev pub invariant-loop-place : goal.invariant-loop-place
invariant-loop-place l = AreWritten l.deps.table.keys l.deps.txns l.place l.fn.out.items l.out.items l.count
