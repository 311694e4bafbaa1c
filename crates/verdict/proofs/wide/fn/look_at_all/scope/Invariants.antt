-- A thread was started for each of the workers so far, and has its piece.
use Rattle.std.proofs.Common.{◌≡◌, ◌<◌, ℕ, get_or, vec_len}
use Rattle.verdict.proofs.wide.fn.look_at_all.scope.Given as goal

abbrev pub invariant-loop-worker : goal.invariant-loop-worker
invariant-loop-worker g l =
    (vec_len l.started ≡ l.worker)
    × ((k : ℕ) (d : _) → k < l.worker → ((get_or l.started.items k d).promise.pieces.now ≡ l.pieces.now) × ((get_or l.started.items k d).promise.worker ≡ k))
