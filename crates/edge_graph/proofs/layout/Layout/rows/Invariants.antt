-- The rows so far are those of the transactions so far, and then of the versions so far.
use Rattle.edge_graph.proofs.RowSteps.{AreFirstTxnRows, AreFirstRows}
use Rattle.edge_graph.proofs.layout.Layout.rows.Given as goal

abbrev pub invariant-loop-place : goal.invariant-loop-place
invariant-loop-place l = AreFirstTxnRows l.self.history.now.txns l.self.history.now.table l.place l.bounds.items l.items.items

abbrev pub invariant-loop-version : goal.invariant-loop-version
invariant-loop-version l = AreFirstRows l.self.history.now.txns l.self.history.now.table l.version l.bounds.items l.items.items
