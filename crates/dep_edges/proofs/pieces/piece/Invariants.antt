-- What is known comes from versions of these keys, and the versions so far that are of them were looked at.
use Rattle.std.proofs.Common.{◌<◌, ℕ}
use Rattle.dep_edges.specs.Pieces.{IsByKeys, IsOfKeys, IsSeen}
use Rattle.dep_edges.specs.Tables.{version_at}
use Rattle.dep_edges.proofs.pieces.piece.Given as goal

abbrev pub invariant-loop-number : goal.invariant-loop-number
invariant-loop-number l =
    IsByKeys l.history l.keys l.from l.to l.piece
    × ((number : ℕ) → number < l.number → IsOfKeys l.keys l.from l.to number → IsSeen l.history.txns l.piece (version_at l.history.table number))
