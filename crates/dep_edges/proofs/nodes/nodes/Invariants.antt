-- The ok transactions are marked, and those of the pieces so far.
use Rattle.std.proofs.Common.{◌≡◌, map, take}
use Rattle.hist_types.specs.Transactions.{is_ok}
use Rattle.dep_edges.specs.Pieces.{with_all_marks}
use Rattle.dep_edges.proofs.nodes.nodes.Given as goal

abbrev pub invariant-loop-piece : goal.invariant-loop-piece
invariant-loop-piece l = l.nodes.items ≡ with_all_marks (map is_ok l.history.txns) (take l.piece-index l.pieces)
