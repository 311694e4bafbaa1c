-- The pieces so far are what was found so far.
use Rattle.std.proofs.Common.{◌≡◌, ◌++◌, map, Ok}
use Rattle.std.specs.Vec.Iter.{into_iter_items}
use Rattle.verdict.proofs.wide.all_pieces.Given as goal

abbrev pub invariant-loop-piece : goal.invariant-loop-piece
invariant-loop-piece g l =
    (l.yielded ++ into_iter_items l.piece-iterator ≡ into_iter_items l.initial.piece-iterator) × (map Ok l.all.items ≡ l.yielded)
