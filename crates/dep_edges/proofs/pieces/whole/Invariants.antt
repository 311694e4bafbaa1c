-- The versions so far were looked at.
use Rattle.std.proofs.Common.{◌<◌, ℕ}
use Rattle.dep_edges.specs.Pieces.{IsOf, IsSeen}
use Rattle.dep_edges.specs.Tables.{version_at}
use Rattle.dep_edges.proofs.pieces.whole.Given as goal

abbrev pub invariant-loop-number : goal.invariant-loop-number
invariant-loop-number l = IsOf l.history l.piece × ((number : ℕ) → number < l.number → IsSeen l.history.txns l.piece (version_at l.history.table number))
